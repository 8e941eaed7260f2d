pub mod CodeLemmas
pub mod EntryLemmas
pub mod ExchangeLemmas
pub mod FactLemmas
pub mod FormLemmas
pub mod NewestLemmas
pub mod PointerLemmas
pub mod SetUpLemmas
pub mod ListLemmas
pub mod SameForms
mod LossLemmas
