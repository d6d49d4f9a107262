pub mod Counting
pub mod Owning
pub mod Scouts
pub mod Facts
