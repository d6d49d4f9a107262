pub mod Across
pub mod Acting
pub mod Beginning
pub mod Carrying
pub mod Crossings
mod Examples
pub mod Follows
pub mod Keeping
pub mod Kept
pub mod Leading
pub mod Making
pub mod Meetings
pub mod Near
pub mod Receiving
pub mod Sending
pub mod Stepping
pub mod Together
pub mod Ways
