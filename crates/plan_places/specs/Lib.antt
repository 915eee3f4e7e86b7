pub mod Paths
pub mod Seeking
pub mod Ways
pub mod Told
pub mod Refusals
