pub mod AddedLemmas
pub mod RefusalLemmas
pub mod ParentLemmas
pub mod ForestLemmas
pub mod PlacedLemmas
pub mod PositionLemmas
pub mod TableLemmas
pub mod FinishLemmas
