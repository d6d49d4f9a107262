pub mod CaseData
pub mod Repeated
mod Examples
