pub mod Makes
pub mod Joined
pub mod Picks
