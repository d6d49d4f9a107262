mod Cycles
pub mod Completing
mod Examples
pub mod Feeding
pub mod Places
