mod Breaking
mod Descents
mod Endings
mod FirstEnds
pub mod Instances
mod Listed
mod OneShort
mod Shorter
