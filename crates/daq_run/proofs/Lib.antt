pub mod ItemLemmas
pub mod TakenLemmas
pub mod DrainLemmas
pub mod RunLemmas
pub mod WorkLemmas
pub mod AmpleLemmas
pub mod ApartLemmas
pub mod ThreadLemmas
pub mod SetUpLemmas
pub mod WholeLemmas
pub mod DrainedLemmas
pub mod SameLines
pub mod OpeningLemmas
pub mod ClosingLemmas
pub mod AlikeLemmas
pub mod CarryLemmas
mod StandardFacts
pub mod AskLemmas
pub mod DoneLemmas
pub mod StepLemmas
pub mod LoopLemmas
pub mod LawLemmas
mod WatchLemmas
