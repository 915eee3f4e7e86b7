pub mod Stopped
pub mod Begun
pub mod Withdrawn
pub mod Ended
