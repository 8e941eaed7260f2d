-- What no public clause cites.
pub mod Accepted
pub mod Effects
pub mod Lending
