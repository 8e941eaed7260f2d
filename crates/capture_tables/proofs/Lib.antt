pub mod ClockLemmas
pub mod FileListLemmas
pub mod PlaceLemmas
