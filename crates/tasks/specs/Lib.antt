pub mod Deeds
pub mod Inner
pub mod Links
pub mod Needs
pub mod Tasks
pub mod Ways
