pub mod Kinds
pub mod Parks
-- the definitions that the public contracts cite
pub use Rattle.exec_recv.specs.Nexts
