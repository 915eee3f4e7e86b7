pub mod Playing
pub mod Lasts
