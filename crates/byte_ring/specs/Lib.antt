pub mod Enough
pub mod Fronts
pub mod Held
pub mod Laws
pub mod Places
pub mod Reading
pub mod Reads
pub mod Records
