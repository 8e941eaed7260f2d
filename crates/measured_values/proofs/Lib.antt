pub mod DecimalLemmas
pub mod DigitLemmas
pub mod PowerLemmas
pub mod ResultLemmas
pub mod ShiftLemmas
pub mod TallyLemmas
pub mod TickLemmas
mod WorkedRows
