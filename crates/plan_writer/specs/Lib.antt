pub mod Values
pub mod Jobs
pub mod Nodes
pub mod Canonical
pub mod Order
pub mod Held
pub mod ReadBack
pub mod FilePlan
