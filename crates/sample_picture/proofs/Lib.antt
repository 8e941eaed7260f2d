pub mod GivenLemmas
pub mod MarkLemmas
pub mod MergeLemmas
pub mod RowsLemmas
pub mod TextLemmas
