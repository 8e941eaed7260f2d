pub mod BlockLemmas
pub mod FieldLemmas
pub mod NextLemmas
pub mod OptionLemmas
pub mod RecordLemmas
pub mod SaidLemmas
pub mod StandingLemmas
