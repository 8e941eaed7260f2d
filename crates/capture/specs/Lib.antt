pub mod Numbers
pub mod Packets
pub mod Pcap
pub mod Options
pub mod Blocks
pub mod Units
pub mod Standing
pub mod Inner
