pub mod OpeningLaws
pub mod RefusedLaws
pub mod ClosesLaws
pub mod SaysLaws
pub mod LimitLaws
pub mod ValuesLaws
pub mod EndsLaws
pub mod WordsLaws
