pub mod Standings
pub mod Scanning
pub mod Unless
pub mod LifeReasons
pub mod StopReasons
pub mod Reasons
pub mod So
pub mod Laws
