pub mod Lines
pub mod Records
pub mod LineEnds
pub mod Cutters
