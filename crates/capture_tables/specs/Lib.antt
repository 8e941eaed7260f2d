pub mod CaptureTimes
pub mod Clocks
pub mod FileLists
pub mod Places
