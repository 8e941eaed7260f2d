pub mod DecodeLemmas
pub mod FrontLemmas
pub mod HeldLemmas
pub mod RecordLemmas
pub mod SendLemmas
mod StandardFacts
