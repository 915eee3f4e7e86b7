mod Nodes
mod Noted
mod Opening
mod Completing
mod Waiting
mod Ending
mod Again
mod Steps
mod Readings
mod Reasons
mod Stopping
pub mod Nesting
mod Forwarding
pub mod Roots
pub mod ScopeScans
mod Associating
