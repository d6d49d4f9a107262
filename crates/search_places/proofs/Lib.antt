pub mod Possible
pub mod Judged
pub mod Splitting
