pub mod PathLemmas
pub mod AnswerLemmas
