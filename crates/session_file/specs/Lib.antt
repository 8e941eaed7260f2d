pub mod Lines
pub mod LineOf
pub mod Keys
pub mod Events
pub mod Memory
pub mod Files
pub mod Inner
pub mod Playing
