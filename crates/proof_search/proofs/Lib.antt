pub mod Beginning
pub mod Counting
pub mod Keeping
pub mod Owning
pub mod Scouting
