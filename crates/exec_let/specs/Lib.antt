pub mod Kinds
pub mod Opens
pub mod Picks
pub mod Ends
pub mod Lets
-- the definitions that the public contracts cite
pub use Rattle.exec_recv.specs.Nexts
