-- TraceLaws: lemmas of the picture of a trace.
pub mod Rows
