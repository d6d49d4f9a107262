pub mod SeenPairs
pub mod Languages
pub mod WrittenIsRead
pub mod ReadIsWritten
pub mod Causes
pub mod Refusals
