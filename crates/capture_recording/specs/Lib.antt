pub mod Talks
pub mod Heard
pub mod Said
pub mod Slaves
pub mod Refusals
pub mod Reads
