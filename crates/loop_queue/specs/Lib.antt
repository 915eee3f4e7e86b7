pub mod Rule
pub mod Posts
pub mod Moves
pub mod Law
