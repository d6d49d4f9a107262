pub mod Headers
pub mod Judgements
pub mod Lows
