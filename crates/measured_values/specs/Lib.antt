pub mod Decimals
pub mod Encodings
pub mod Physicals
pub mod Raws
pub mod Tallies
pub mod Texts
pub mod Ticks
