pub mod Kinds
pub mod Rows
pub mod Made
pub mod Elements
pub mod Opens
pub mod Begins
pub mod Ends
pub mod Parts
pub mod Steps
-- the definitions that the public contracts cite
pub use Rattle.exec_recv.specs.Nexts
