pub mod Kinds
pub mod Joined
pub mod Opens
pub mod Starts
pub mod Begins
pub mod Ends
pub mod Steps
-- the definitions that the public contracts cite
pub use Rattle.exec_recv.specs.Nexts
