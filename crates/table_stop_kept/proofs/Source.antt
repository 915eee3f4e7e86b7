-- A source's word is written.
pub mod Spots
pub mod Runs
