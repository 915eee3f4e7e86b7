pub mod Places
pub mod Emptied
pub mod Opened
pub mod Reading
pub mod Begun
pub mod Ended
pub mod Going
pub mod Stepped
