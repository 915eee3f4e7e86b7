pub mod Searches
pub mod Puts
pub mod Tends
-- the definitions that the public contracts cite
pub use Rattle.table_steps.specs.Views
pub use Rattle.table_steps.specs.Claims
pub use Rattle.table_steps.specs.Slots
pub use Rattle.table_steps.specs.Swaps
pub use Rattle.table_steps.specs.Releases
pub use Rattle.table_steps.specs.Steps
