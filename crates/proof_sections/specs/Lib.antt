pub mod Judgement
pub use Rattle.proof_check.specs.Judging
pub use Rattle.proof_text.specs.Answers
pub mod Spelled
