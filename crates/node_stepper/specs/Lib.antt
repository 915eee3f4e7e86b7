pub mod Does
-- the definitions that the public contracts cite
pub use Rattle.exec_recv.specs.Nexts
