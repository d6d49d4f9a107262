-- The cause that the reader tells is the one that is counted on the tokens before.
pub mod Examples
pub mod States
pub mod Steps
pub mod Rows
pub mod Told
pub mod FirstWrong
