pub mod Instances
pub mod Forms
pub mod Alone
pub mod Theorem
pub mod Tests
pub mod Places
pub mod Edits
pub mod Rules
pub mod Taking
pub mod Commuting
pub mod CommutingWithout
pub mod Converging
pub mod ConvergingWithout
pub mod Levels
mod Buildable
