pub mod Offered
pub mod Works
pub mod Rounds
-- the definitions that the public contracts cite
pub use Rattle.table_steps.specs.Views
pub use Rattle.exec_recv.specs.Asides
pub use Rattle.exec_recv.specs.Over
pub use Rattle.node_walks.specs.Serving
pub use Rattle.deck_relay.specs.Decks
pub use Rattle.deck_relay.specs.Desks
pub use Rattle.loop_queue.specs.Posts
pub mod Arrangements
