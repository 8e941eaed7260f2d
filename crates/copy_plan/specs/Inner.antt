-- What no public clause cites.
pub mod Filled
pub mod Joined
pub mod Kept
pub mod Spans
pub mod Stretched
pub mod Lens
