pub mod PrintedLemmas
pub mod RowLemmas
pub mod SpotLemmas
pub mod TallyLemmas
pub mod TimesLemmas
