-- A hand turns to one of its homes, and moves what is in it.
pub mod Allowed
pub mod Swapping
