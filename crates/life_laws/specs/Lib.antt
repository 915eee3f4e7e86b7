pub mod Histories
pub mod Reached
pub mod Laws
