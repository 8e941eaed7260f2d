pub mod UnitLemmas
pub mod QueueLemmas
pub mod TakeLemmas
pub mod ShownLemmas
pub mod SentLemmas
pub mod PutLemmas
