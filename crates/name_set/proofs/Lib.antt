mod Bits
pub mod Places
mod Changes
mod Empties
mod Windows
