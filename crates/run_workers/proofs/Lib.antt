mod Hands
pub mod Kept
