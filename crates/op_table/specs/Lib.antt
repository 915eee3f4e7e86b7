pub mod Lends
pub mod LowestOwed
pub mod OnlyChild
