-- PlanLaws: lemmas of the picture of a plan.
pub mod Contexts
pub mod Drawn
pub mod Folding
