pub mod Stepping
pub mod Heard
pub mod Midway
pub mod Takes
pub mod Several
pub mod Changes
pub mod Settles
pub mod Listens
pub mod Completes
pub mod Leaves
pub mod Wants
pub mod Starts
pub mod Kids
pub mod Starting
pub mod Awaits
pub mod Puts
-- the definitions that the public contracts cite
pub use Rattle.exec_recv.specs.Nexts
