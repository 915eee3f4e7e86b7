pub mod Status
pub mod Sinks
pub mod Notes
pub mod Noted
pub mod Files
