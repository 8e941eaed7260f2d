pub mod TableLemmas
pub mod StandingLemmas
pub mod FaultLemmas
pub mod EffectLemmas
pub mod InvariantLemmas
pub mod ReadyLemmas
pub mod CommandLemmas
pub mod ReplyLemmas
mod PacketFacts
mod StandardFacts
