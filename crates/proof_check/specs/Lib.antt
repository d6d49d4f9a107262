pub mod Steps
pub mod Standings
pub mod Judging
pub mod Questions
pub use Rattle.proof_trees.specs.Tokens
