pub mod Counting
pub mod SummaryText
