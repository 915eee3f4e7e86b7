pub mod NodeWords
pub mod NodeParts
pub mod Limits
pub mod Walked
pub mod Roots
pub mod Plans
pub mod Levels
pub mod PlanFile
