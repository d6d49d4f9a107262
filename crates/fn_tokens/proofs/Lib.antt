pub mod Lexing
pub mod LexesBack
pub mod Ends
pub mod Size
pub mod Passing
pub mod Ahead
