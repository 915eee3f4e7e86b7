-- A node is left at rest, ready or parked.
pub mod Runs
pub mod Allowed
pub mod Told
