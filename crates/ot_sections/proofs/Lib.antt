mod AllJudged
mod Coming
pub mod Fitting
pub mod Leading
pub mod Leaving
mod Only
mod Premises
mod Taking
mod Tokens
mod TreeRun
pub mod Numbers
