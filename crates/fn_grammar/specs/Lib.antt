pub mod Print
pub mod Offsets
pub mod Grammar
pub mod Theorems
pub use Rattle.fn_rules.specs.Formulas
pub use Rattle.fn_rules.specs.Functions
pub use Rattle.fn_rules.specs.Rules
pub use Rattle.fn_tokens.specs.Tokens
