mod Keys
mod ConstantLemmas
mod ReadingLemmas
