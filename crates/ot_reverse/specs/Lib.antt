pub mod Reversal
pub mod Goals
pub mod Answers
pub use Rattle.fn_rules.specs.Functions
pub use Rattle.fn_rules.specs.Transformation
pub use Rattle.fn_rules.specs.Properties
