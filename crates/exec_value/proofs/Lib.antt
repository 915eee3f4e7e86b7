pub mod NumberLemmas
mod KindLemmas
pub mod RowLemmas
pub mod SumLemmas
pub mod TextLemmas
