pub mod Takes
pub mod Spawned
pub mod Ends
-- the definitions that the public contracts cite
pub use Rattle.table_steps.specs.Views
pub use Rattle.exec_recv.specs.Over
pub use Rattle.node_walks.specs.Resting
