pub mod Lexemes
pub mod Kinds
pub mod Places
pub mod Bytes
pub mod Cutting
pub mod Wholes
pub mod Seen
pub mod Pages
