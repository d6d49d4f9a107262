pub mod CertificateTrees
pub mod NoStarts
pub mod Soundness
mod Examples
