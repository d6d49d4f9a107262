pub mod ExactLemmas
mod Examples
pub mod FixedLemmas
pub mod ItemLemmas
pub mod LineLemmas
pub mod NumberLemmas
pub mod OffsetLemmas
pub mod Places
pub mod Spells
pub mod TokenLemmas
pub mod WriterLemmas
