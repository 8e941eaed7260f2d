pub mod FitLemmas
pub mod ImageLemmas
pub mod OrderLemmas
pub mod PlaceLemmas
pub mod ReadLemmas
pub mod ShownLemmas
