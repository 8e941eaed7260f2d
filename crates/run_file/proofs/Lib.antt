pub mod StepLaw
pub mod StepWhole
pub mod WordLemmas
pub mod KeyLemmas
pub mod ReadLemmas
pub mod KeptLemmas
pub mod LimitLemmas
pub mod RunLemmas
pub mod OutcomeLemmas
mod StandardFacts
