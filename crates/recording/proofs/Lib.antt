mod ByNameLemmas
pub mod FileLemmas
pub mod MeasuredLemmas
pub mod FrontLemmas
pub mod BreakLemmas
pub mod PassLemmas
pub mod PieceLemmas
pub mod RunFileLemmas
pub mod ShownLemmas
pub mod StopLemmas
pub mod WithinLemmas
pub mod FrameLemmas
pub mod PlaceLemmas
pub mod AcceptedLemmas
pub mod ListLemmas
pub mod JoinLemmas
pub mod StoreLemmas
pub mod RunLemmas
