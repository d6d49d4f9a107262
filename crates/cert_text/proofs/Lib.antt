pub mod CycleLemmas
pub mod Digits
pub mod Endings
mod Examples
pub mod LineLemmas
pub mod NumberLists
pub mod PartLemmas
pub mod PieceLemmas
pub mod ReadingLemmas
pub mod StepLemmas
pub mod TreeTextLemmas
pub mod WholeCertificates
pub mod WriterLemmas
