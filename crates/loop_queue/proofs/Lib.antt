pub mod Views
pub mod Entries
pub mod Moves
pub mod Opens
pub mod Gather
pub mod Closes
pub mod Kept
