pub mod Candidates
pub mod Firsts
pub mod Mendings
pub mod Scans
