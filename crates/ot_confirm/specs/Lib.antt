pub mod Judgement
pub mod Certified
pub mod Proofs
