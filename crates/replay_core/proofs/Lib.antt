pub mod Kept
pub mod Along
pub mod There
pub mod Followed
pub mod Passed
