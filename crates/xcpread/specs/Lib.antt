pub mod Faults
pub mod Files
pub mod Forms
pub mod NoTexts
pub mod Progress
