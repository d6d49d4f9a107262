pub mod Answers
pub mod Exact
pub mod Fronts
pub mod Lines
pub mod Numbers
pub mod Spelling
pub mod Tokens
