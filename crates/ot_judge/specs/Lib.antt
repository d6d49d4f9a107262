pub mod Refusals
pub use Rattle.cert_text.specs.Places
pub use Rattle.cert_text.specs.Reading
