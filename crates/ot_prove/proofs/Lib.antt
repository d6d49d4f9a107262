pub mod Literals
pub mod Listing
pub mod Answering
pub mod Ways
pub mod Coming
pub mod Steps
pub mod OneList
pub mod ShortCycles
pub mod AllPossible
pub mod Telling
pub mod Leads
mod Examples
