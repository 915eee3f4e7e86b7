pub mod Pairs
pub mod Commands
pub mod Buckets
pub mod Links
pub mod Settling
pub mod Delays
pub mod Wheels
