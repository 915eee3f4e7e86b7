pub mod Reading
pub mod Asks
pub mod Usage
