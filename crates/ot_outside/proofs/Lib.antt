pub mod Appended
mod Examples
pub mod FilesLemmas
mod Keeping
pub mod Pieces
