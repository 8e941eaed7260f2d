pub mod Config
pub mod Frames
pub mod Inner
pub mod Laws
pub mod Memory
pub mod Packet
pub mod Pids
pub mod Copies
