pub mod Faults
pub mod Image
pub mod Laws
pub mod Memory
pub mod Places
pub mod Segment
