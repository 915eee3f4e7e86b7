pub mod BlockLaws
pub mod SmallLaws
