pub mod Order
pub mod Below
pub mod ScanLists
pub mod Walking
pub mod Looking
pub mod Waiting
pub mod Listing
pub mod Keeping
pub mod Nesting
pub mod Passing
mod Asking
mod LookedAfter
