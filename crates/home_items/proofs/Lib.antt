mod Sent
pub mod Widening
pub mod KindsBelow
pub mod Reading
pub mod Fitting
pub mod Pairing
pub mod Collecting
pub mod Beginning
pub mod Standing
pub mod Shares
pub mod Starting
pub mod Kept
pub mod Lots
pub mod States
