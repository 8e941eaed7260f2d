pub mod LineLaw
pub mod ItemLemmas
pub mod MemoryLemmas
pub mod SliceLemmas
pub mod FileLemmas
pub mod LogLemmas
pub mod PlayLemmas
pub mod TaskLemmas
