pub mod Walking
pub mod Plans
pub mod Emptied
pub mod Opened
pub mod Made
pub mod Begun
pub mod Ended
pub mod Stepped
