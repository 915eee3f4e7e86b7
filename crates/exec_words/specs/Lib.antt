pub mod Numbers
pub mod Reading
pub mod Command
pub mod Usage
pub mod Laws
