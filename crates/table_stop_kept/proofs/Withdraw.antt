-- A callback is removed.
pub mod Runs
pub mod Allowed
