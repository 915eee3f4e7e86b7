pub mod Positions
pub mod Adding
pub mod Finishing
