pub mod Standing
pub mod Slips
pub mod Shown
pub mod Hints
pub mod Texts
