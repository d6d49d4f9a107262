pub mod Starts
pub mod Proofs
pub mod Truth
pub mod Starters
pub mod Startless
pub mod Tokens
pub use Rattle.ask_core.specs.Plans
pub use Rattle.ask_core.specs.Trees
