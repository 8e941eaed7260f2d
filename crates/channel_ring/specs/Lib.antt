pub mod Ends
pub mod Making
pub mod Names
pub mod Room
pub mod Orders
