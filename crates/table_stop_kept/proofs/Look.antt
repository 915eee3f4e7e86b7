-- A hand looks whether a stop was requested on a source.
pub mod Sights
pub mod State
pub mod Runs
