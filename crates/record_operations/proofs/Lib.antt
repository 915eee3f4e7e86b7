mod Moved
mod Starting
mod Entered
mod Named
mod Listed
mod Allowed
mod Spawning
mod Telling
pub mod Holding
mod Learned
mod Worked
mod Sounding
mod Requested
pub mod Joined
mod Held
mod Cleared
mod Changed
pub mod ServedSounding
mod Associated
