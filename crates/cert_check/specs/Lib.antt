pub mod Steps
pub mod Judging
pub mod Questions
pub mod Walks
pub use Rattle.ask_core.specs.Plans
pub use Rattle.ask_core.specs.Trees
pub use Rattle.ask_core.specs.Paths
