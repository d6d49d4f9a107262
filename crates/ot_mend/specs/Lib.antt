pub mod Edits
pub mod Offers
pub mod Ranks
pub mod Members
