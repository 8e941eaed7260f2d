pub mod Inner
pub mod Lines
pub mod Newest
pub mod Places
pub mod Ways
