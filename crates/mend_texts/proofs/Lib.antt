mod Examples
mod Members
mod Offsets
