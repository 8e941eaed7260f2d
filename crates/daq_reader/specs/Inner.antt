-- What no public clause cites.
pub mod Cut
pub mod Fitting
pub mod Places
pub mod Shapes
pub mod Slots
