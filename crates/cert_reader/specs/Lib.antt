pub mod Readers
pub use Rattle.cert_text.specs.Reading
