pub mod Times
pub mod Blocks
pub mod Marks
pub mod CallbackRuns
pub mod Endings
pub mod Memberships
pub mod Consequences
pub mod Laws
