pub mod Unplaced
pub mod Bytes
pub mod Blanks
pub mod Laying
pub mod Broken
pub mod PageLemmas
pub mod LongLemmas
pub mod Numerals
