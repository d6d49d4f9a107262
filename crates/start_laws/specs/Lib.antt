pub mod Starts
pub mod Begun
pub mod Marking
pub mod Settled
