-- What is refused, no file of the grammar goes on with; what was taken, some file does.
pub mod NoneBegins
pub mod MissingBlocks
pub mod OpenCases
pub mod GoesOn
pub mod DeadEnds
pub mod GoingOn
pub mod Told
pub mod Examples
