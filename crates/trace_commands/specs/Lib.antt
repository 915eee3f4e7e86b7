pub mod Answers
pub mod Refusals
pub mod Says
pub mod Ends
