pub mod AnyNode
pub mod Agreement
pub mod FirstError
pub mod LicenseLaws
pub mod MomentLaws
pub mod PlanLaws
