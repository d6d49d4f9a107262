pub mod Transformations
pub mod Heads
pub mod Templates
