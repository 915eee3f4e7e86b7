pub mod Resting
pub mod Mails
pub mod Walks
pub mod Stepped
pub mod Since
pub mod Serving
pub mod Leaves
pub mod Starts
pub mod Emptied
pub mod Completes
-- the definitions that the public contracts cite
pub use Rattle.table_steps.specs.Views
pub use Rattle.exec_recv.specs.Over
pub use Rattle.exec_recv.specs.Asides
pub use Rattle.table_steps.specs.Takes
