pub mod Nodes
pub mod Doings
