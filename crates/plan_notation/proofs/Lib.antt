pub mod Joins
pub mod NodeSteps
mod Parsed
pub mod Stacks
pub mod Whole
pub mod WholeWords
pub mod WholeNodes
pub mod HeldParts
pub mod Ends
