pub mod Rows
pub mod Spots
pub mod Tables
pub mod Tallies
pub mod Times
