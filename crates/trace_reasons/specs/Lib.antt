pub mod Sentences
pub mod Since
pub mod Open
pub mod Explaining
