-- A node is finished.
pub mod Ends
pub mod Runs
pub mod Root
pub mod Allowed
