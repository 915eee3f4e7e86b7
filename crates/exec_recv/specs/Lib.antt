pub mod Over
pub mod Family
pub mod Beginnings
pub mod Steppable
pub mod Asides
pub mod Since
pub mod Areas
pub mod Actions
pub mod Nexts
pub mod Seats
pub mod Sites
pub mod Deliveries
-- the definitions that the public contracts cite
pub use Rattle.table_steps.specs.Views
