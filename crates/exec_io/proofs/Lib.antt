pub mod GivenLemmas
pub mod PutsLemmas
mod ShelfLemmas
pub mod SinkLemmas
mod SourceLemmas
