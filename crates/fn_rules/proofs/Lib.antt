pub mod LimitsKept
pub mod AtomCounts
pub mod Forms
pub mod KindPairs
pub mod LevelLengths
pub mod Naming
pub mod Positions
pub mod Pushing
pub mod Instances
mod Examples
