pub mod WriteLemmas
pub mod ProfileLemmas
pub mod ReplyLemmas
pub mod ListSetLemmas
pub mod StartLemmas
pub mod SetUpLemmas
mod StandardFacts
mod MemoryFacts
mod CtoFacts
pub mod FitLemmas
