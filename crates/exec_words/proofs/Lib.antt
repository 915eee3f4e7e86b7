pub mod Spelled
pub mod Bounds
