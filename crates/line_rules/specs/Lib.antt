pub mod Lawful
pub mod Moments
pub mod PlanTerms
pub mod StopStates
