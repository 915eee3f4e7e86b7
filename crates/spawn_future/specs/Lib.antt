pub mod Slots
pub mod Keeping
pub mod Opened
pub mod Spawns
pub mod Polls
pub mod Sweeps
pub mod Counts
pub mod Serves
pub mod Turns
-- the definitions that the public contracts cite
pub use Rattle.table_steps.specs.Views
pub use Rattle.exec_recv.specs.Over
pub use Rattle.node_walks.specs.Starts
