pub mod Records
pub mod Places
pub mod Names
pub mod Channels
pub mod Times
pub mod Files
pub mod Laws
