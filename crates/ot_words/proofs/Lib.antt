mod Apps
pub mod Bounds
mod Examples
mod Naming
mod PlainNames
