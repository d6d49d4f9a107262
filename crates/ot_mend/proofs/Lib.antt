pub mod Buildable
pub mod Pairs
mod Examples
