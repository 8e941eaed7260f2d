pub mod Logs
pub mod Names
pub mod RunTexts
