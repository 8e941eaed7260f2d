pub mod ChainLemmas
pub mod StreamLemmas
pub mod WaitLemmas
