mod Standing
mod Ends
mod Listing
mod Runs
mod Misses
mod Bounds
pub mod Lasting
pub mod CallLists
mod Noted
