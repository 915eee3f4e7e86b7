pub mod Reading
pub mod Named
pub mod Objects
pub mod Scalars
pub mod Constants
pub mod JobWords
pub mod Jobs
