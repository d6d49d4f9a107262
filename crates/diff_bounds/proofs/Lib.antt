pub mod Kept
pub mod Led
pub mod RowSteps
