-- A node's control word is written.
pub mod Moves
pub mod Runs
