pub mod Joining
pub mod PlanLaws
pub mod TraceLaws
