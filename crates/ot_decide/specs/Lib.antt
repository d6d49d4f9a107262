pub mod Below
pub mod Proving
pub mod Sizes
pub mod Verdicts
