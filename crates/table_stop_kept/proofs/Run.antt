-- A scan runs the callback at its next place, or passes the place.
pub mod Remembered
pub mod Runs
pub mod Live
pub mod Meets
pub mod Allowed
pub mod Told
