pub mod Given
pub mod Nodes
pub mod OneProof
pub use Rattle.ot_terms.specs.Belonging
pub use Rattle.ot_terms.specs.Standing
pub mod Cells
pub mod Sharing
pub mod Trials
