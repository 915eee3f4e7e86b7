-- A child is reported to its parent, as the last or with others to come.
pub mod State
pub mod On
pub mod LastKids
pub mod LastReported
pub mod LastHomes
pub mod Last
pub mod Words
pub mod Runs
pub mod Allowed
pub mod Told
