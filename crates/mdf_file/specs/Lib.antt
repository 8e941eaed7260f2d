pub mod Adding
pub mod Describing
pub mod Ending
pub mod Outs
pub mod Standing
pub mod Writing
