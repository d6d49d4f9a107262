-- What the grammar writes is read.
pub mod Guards
pub mod Cases
pub mod Blocks
pub mod BlockLists
pub mod Heads
pub mod Files
