-- What is printed is written by the grammar, and with the fewest parentheses.
pub mod Offsets
pub mod Lines
pub mod Guards
pub mod Functions
pub mod FewestParentheses
pub mod Examples
pub mod Size
