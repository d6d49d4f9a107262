pub mod Literals
pub mod Limits
pub mod Cycles
