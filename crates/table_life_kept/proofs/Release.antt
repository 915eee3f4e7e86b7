-- A block is given back.
pub mod Homes
pub mod Views
pub mod Moves
pub mod Forgetting
pub mod Stamps
pub mod Runs
pub mod Allowed
