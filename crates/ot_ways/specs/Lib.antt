pub mod Taken
pub mod Differences
pub mod Steps
pub use Rattle.fn_rules.specs.Rules
pub use Rattle.fn_rules.specs.Transformation
pub use Rattle.ot_counter.specs.Ways
