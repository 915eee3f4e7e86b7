pub mod Along
pub mod Lasting
pub mod Marks
pub mod Entries
