pub mod Firsts
pub mod Improving
pub mod Layers
