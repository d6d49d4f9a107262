-- What is read is written by the grammar.
pub mod Moves
pub mod Room
pub mod States
pub mod Guards
pub mod Heads
pub mod Blocks
pub mod Images
pub mod Files
pub mod Functions
