pub mod EndLemmas
pub mod PlaceLemmas
pub mod SendLemmas
