pub mod AtHand
pub mod Both
pub mod Spawning
pub mod Found
