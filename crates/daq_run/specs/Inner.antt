-- What no public clause cites: the engine of a run as it was opened, and what the threads of the
-- event channels do.
pub mod Opened
pub mod Workers
