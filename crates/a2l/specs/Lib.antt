pub mod ModuleSaid
pub mod Names
pub mod Resolved
pub mod Described
pub mod Drafts
pub mod Whole
pub mod Units
pub mod Elements
