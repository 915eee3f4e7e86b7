pub mod Kinds
pub mod Ends
pub mod Hops
-- the definitions that the public contracts cite
pub use Rattle.exec_recv.specs.Nexts
