pub mod Tree
pub mod Nearest
