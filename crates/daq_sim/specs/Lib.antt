pub mod Faults
pub mod Printed
pub mod Done
pub mod Stops
