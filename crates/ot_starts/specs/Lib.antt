pub mod Kept
pub mod Nodes
pub mod Trials
pub mod Turns
pub mod Whole
