-- What the contracts cite.
pub mod Ended
