pub mod Kinds
pub mod Withdraws
pub mod Ends
pub mod Begins
pub mod Steps
-- the definitions that the public contracts cite
pub use Rattle.exec_recv.specs.Nexts
