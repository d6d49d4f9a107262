pub mod Sides
pub mod Waiting
pub mod Changes
