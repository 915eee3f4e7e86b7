mod Exchange
mod LowestOwed
mod OnlyChild
mod Remembered
