pub mod BodyLemmas
pub mod CopiedLemmas
pub mod FourLemmas
pub mod PacketsLemmas
pub mod IterLemmas
pub mod FormLemmas
pub mod StretchLemmas
mod BitLemmas
