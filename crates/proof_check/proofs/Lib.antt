pub mod Completing
pub mod Standings
pub mod Keeping
pub mod Taking
pub mod Citing
mod Examples
