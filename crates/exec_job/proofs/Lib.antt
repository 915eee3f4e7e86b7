pub mod AnswerLemmas
pub mod OperandLemmas
