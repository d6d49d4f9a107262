pub mod Deep
pub mod Walks
