pub mod DelayNodes
pub mod Longer
pub mod Fetches
pub mod Loops
pub mod Starts
pub mod Collects
pub mod Serves
pub mod Turns
pub mod Delayed
pub mod Scans
pub mod Waits
-- the definitions that the public contracts cite
pub use Rattle.table_steps.specs.Views
pub use Rattle.exec_recv.specs.Over
pub use Rattle.node_walks.specs.Resting
pub use Rattle.node_walks.specs.Starts as RootStarts
pub use Rattle.node_walks.specs.Completes
pub use Rattle.node_walks.specs.Serving
pub use Rattle.deck_relay.specs.SameDecks
pub use Rattle.loop_queue.specs.Posts
pub use Rattle.loop_queue.specs.Moves
