pub mod Tries
pub mod Seals
pub mod Leaves
pub mod Associations
pub mod Joins
pub mod Looks
pub mod Lasting
pub mod CallLists
-- the definitions that the public contracts cite
pub use Rattle.life_rules.specs.Scopes
pub use Rattle.table_words.specs.ScopeNumbers
pub use Rattle.table_steps.specs.Views
pub use Rattle.table_steps.specs.Claims
pub use Rattle.table_steps.specs.ScopeSets
