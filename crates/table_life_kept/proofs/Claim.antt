-- A block is claimed, and then a hand owes its root's start.
pub mod Cases
pub mod State
pub mod Homes
pub mod Views
pub mod Told
pub mod Unnoted
pub mod Runs
pub mod Allowed
