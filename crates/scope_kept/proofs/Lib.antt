pub mod Frames
pub mod Counts
pub mod Rouse
pub mod Steps
