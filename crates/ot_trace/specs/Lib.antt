pub mod Steps
pub mod Orders
pub mod Columns
pub mod Texts
pub mod Events
pub mod HubTexts
pub mod SessionTexts
