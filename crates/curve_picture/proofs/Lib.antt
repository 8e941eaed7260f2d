pub mod DrawnLemmas
pub mod GatheredLemmas
pub mod GivenLemmas
pub mod MergedLemmas
pub mod StretchLemmas
pub mod WholeLemmas
