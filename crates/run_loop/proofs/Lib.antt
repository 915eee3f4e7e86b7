pub mod Decked
mod Fetched
pub mod Turned
pub mod Meeting
pub mod DelayLists
pub mod Becoming
pub mod PlaceLooks
pub mod Looking
pub mod Due
pub mod OneRun
pub mod Served
