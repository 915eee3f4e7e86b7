-- A node awaits children, and then the hand owes their starts.
pub mod Adding
pub mod Runs
pub mod Writes
pub mod Allowed
pub mod Size
