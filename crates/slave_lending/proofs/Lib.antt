pub mod ByteLemmas
pub mod OpenLemmas
pub mod SendLemmas
pub mod SendingLemmas
pub mod TaskLemmas
pub mod SlotLemmas
