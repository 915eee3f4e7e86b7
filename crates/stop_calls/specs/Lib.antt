pub mod Cursors
pub mod Requests
pub mod Walks
pub mod Searches
pub mod Armings
pub mod Removals
pub mod Asides
pub mod Nestings
pub mod CallLists
-- the definitions that the public contracts cite
pub use Rattle.table_steps.specs.Views
pub use Rattle.table_steps.specs.Sights
