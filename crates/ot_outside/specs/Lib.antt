-- What the contracts cite.
pub mod Counts
pub mod Faults
pub mod Files
pub mod Machine
pub mod MemShelf
pub mod MemSink
pub mod Reads
pub mod ShelfFeed
pub mod Unchanged
pub mod Whole
