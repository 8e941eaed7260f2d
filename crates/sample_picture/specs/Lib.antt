pub mod Gathered
pub mod Inner
pub mod Marks
pub mod Scale
pub mod Shown
