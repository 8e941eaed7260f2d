pub mod Laid
pub mod Pages
pub mod Queue
pub mod Inner
pub mod Taking
pub mod Showing
