pub mod Moments
pub mod Fits
pub mod AtTrigger
