pub mod Agreement
pub mod Alike
pub mod After
pub mod Conditions
pub mod Nears
mod Examples
pub mod Unmarked
pub mod StartsKept
pub mod RuleMarks
pub mod Begins
