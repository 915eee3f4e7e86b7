pub mod ListLemmas
pub mod LeastLemmas
pub mod DepthLemmas
pub mod ForestLaws
pub mod AncestorLemmas
pub mod TreeLemmas
