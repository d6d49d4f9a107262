pub mod Ends
pub mod Conditions
pub use Rattle.ot_model.specs.Effect
pub use Rattle.fn_rules.specs.Conditions as FunctionConditions
pub use Rattle.fn_rules.specs.Orders
pub use Rattle.fn_rules.specs.Rules
