pub mod Kept
pub mod Listed
pub mod Wrong
pub mod Refused
