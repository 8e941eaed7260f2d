pub mod Bytes
pub mod Lends
pub mod LentTasks
pub mod Sending
pub mod Slots
pub mod States
