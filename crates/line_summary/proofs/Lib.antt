pub mod CountLaws
pub mod SummaryLaws
