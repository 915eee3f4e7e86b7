-- A callback's run ends, also by its own removal from inside.
pub mod Runs
pub mod Own
pub mod Allowed
