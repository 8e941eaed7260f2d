pub mod ShownLemmas
pub mod TurnLemmas
pub mod ListsLemmas
pub mod ReadLemmas
pub mod HeardLemmas
pub mod StreamLemmas
pub mod AlikeLemmas
pub mod KeptLemmas
mod LossLemmas
