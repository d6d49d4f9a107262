mod Agreeing
mod Called
mod Confirming
mod Drilling
mod Ends
mod Feeding
mod Given
mod HubEnding
mod HubRunning
pub mod HubStatus
mod Judged
mod Mending
mod OneEnd
mod PassedOn
mod ReadCertificate
mod Refusing
mod Running
pub mod RunsBy
pub mod Steady
