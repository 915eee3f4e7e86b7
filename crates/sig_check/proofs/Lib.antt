pub mod ShapeLemmas
pub mod Walking
pub mod CheckLemmas
