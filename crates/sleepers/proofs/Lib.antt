pub mod Snoc
