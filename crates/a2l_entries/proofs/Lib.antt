pub mod SaidLemmas
pub mod ScanLemmas
pub mod OptionLemmas
mod DimensionLemmas
mod WorkedRows
