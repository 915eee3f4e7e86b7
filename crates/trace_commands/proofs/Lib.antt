pub mod Due
pub mod Ending
pub mod Bytes
