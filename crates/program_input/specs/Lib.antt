pub mod Faults
pub mod Versions
