pub mod CaseExamples
pub mod Elements
pub mod Examples
pub mod FirstFault
pub mod HubExamples
pub mod Reading
pub mod Readings
pub mod ScriptExamples
pub mod Scripts
mod Tested
pub mod Writing
pub mod JsonRead
