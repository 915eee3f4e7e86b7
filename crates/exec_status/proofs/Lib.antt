pub mod Concluding
pub mod Missing
