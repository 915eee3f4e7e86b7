-- A node that rests is taken.
pub mod Words
pub mod Homes
pub mod Runs
pub mod Seats
pub mod Allowed
