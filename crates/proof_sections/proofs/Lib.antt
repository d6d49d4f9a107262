mod Examples
pub mod Accepting
pub mod Made
pub mod Trees
mod Fronts
pub mod Holding
pub mod Sections
pub mod Standing
