pub mod LaidMarks
pub mod SettledGoals
mod Trials
pub mod Turns
