pub mod Shown
pub mod Counterexamples
pub mod Near
pub mod Instances
pub mod Examples
