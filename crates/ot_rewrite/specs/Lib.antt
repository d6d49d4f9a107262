pub mod Fronts
pub mod Reaching
pub mod Splits
pub mod Ends
pub mod Table
pub mod Steps
