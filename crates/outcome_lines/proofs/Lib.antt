pub mod CutLemmas
pub mod EscapedLemmas
pub mod IntLineLemmas
pub mod LineLemmas
pub mod OneToOneLemmas
pub mod PieceLemmas
