-- Plans: the picture of a plan.
pub mod Folds
pub mod Names
pub mod Quoted
pub mod Words
pub mod Homes
pub mod Ends
pub mod Shapes
pub mod Lines
pub mod Drawing
pub mod Picture
