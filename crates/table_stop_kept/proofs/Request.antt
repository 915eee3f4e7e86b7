-- A stop is requested on a source.
pub mod Items
pub mod Runs
pub mod Blame
pub mod Allowed
