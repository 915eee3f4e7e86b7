-- A scan goes on: past a free block, and to its seal.
pub mod Views
pub mod Orders
pub mod Skip
pub mod Seal
