pub mod Stocks
pub mod Calls
pub mod Rings
