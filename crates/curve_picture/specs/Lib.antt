pub mod Curves
pub mod Inner
pub mod Shown
pub mod Values
