-- A parked node is woken.
pub mod Runs
pub mod Allowed
