pub mod FaultLemmas
pub mod SplitLemmas
pub mod LayoutLemmas
mod StandardFacts
pub mod TextLemmas
pub mod ReadingLemmas
