pub mod NameLemmas
pub mod ResolveLemmas
pub mod ReadLemmas
