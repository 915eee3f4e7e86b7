pub mod Searched
pub mod Kept
