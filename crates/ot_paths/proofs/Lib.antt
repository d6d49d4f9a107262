mod Conditions
mod GivenGoals
mod Questions
pub mod LaidForms
mod LaidGoals
mod LaidCells
mod LaidTrials
