pub mod FirstCases
pub mod SamePlaces
pub mod Usable
mod Examples
