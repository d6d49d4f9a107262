pub mod KindLists
pub mod OwnBlocks
pub mod Limits
pub mod CaseTexts
pub mod Printing
pub mod Examples
