pub mod Endings
pub mod DeskEnds
pub mod Desks
pub mod Opened
pub mod Fronts
pub mod Owns
pub mod Keeps
pub mod Accounts
