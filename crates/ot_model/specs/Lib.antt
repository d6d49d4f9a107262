pub mod Cells
pub mod Kinds
pub mod Operations
pub mod Effect
