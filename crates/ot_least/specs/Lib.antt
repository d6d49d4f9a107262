pub mod Endings
pub mod Shortest
