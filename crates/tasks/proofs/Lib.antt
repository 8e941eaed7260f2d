pub mod DeedLemmas
pub mod HandLemmas
pub mod LineLemmas
pub mod NeedLemmas
pub mod RunningLemmas
pub mod SendLemmas
pub mod TurnLemmas
pub mod WayLemmas
