pub mod Outcomes
pub mod Searching
pub mod Endings
