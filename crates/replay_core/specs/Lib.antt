pub mod Traces
pub mod Verdicts
pub mod Candidates
pub mod Listings
pub mod Replays
