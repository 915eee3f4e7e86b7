pub mod Names
pub mod Readings
pub mod ScanOrder
pub mod Opened
