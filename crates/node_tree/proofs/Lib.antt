pub mod Walk
pub mod Filled
