pub mod Kinds
pub mod Images
pub mod Ends
pub mod Tops
pub mod Adapts
pub mod Receives
-- the definitions that the public contracts cite
pub use Rattle.exec_recv.specs.Nexts
