pub mod Carried
pub mod Examples
pub mod Forms
pub mod OneOutcome
pub mod Outcomes
pub mod Permutations
pub mod Swaps
