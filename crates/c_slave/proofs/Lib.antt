pub mod CloseLemmas
pub mod HandleValues
pub mod OnLemmas
pub mod TellingLemmas
