pub mod Settled
pub mod Lines
