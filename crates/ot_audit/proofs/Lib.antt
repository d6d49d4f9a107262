pub mod Asked
pub mod Meant
pub mod Ends
pub mod Differences
pub mod Names
pub mod Kept
pub mod Chosen
pub mod Searchable
pub mod Telling
pub mod CasesSoFar
pub mod Behind
pub mod Near
pub mod Wanted
pub mod One
pub mod Seeking
pub mod Everywhere
mod Examples
