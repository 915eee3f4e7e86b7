pub mod Runs
pub mod Settles
pub mod Lets
pub mod Root
