-- A node is begun, and before it its source's word is renewed.
pub mod State
pub mod Homes
pub mod Items
pub mod Views
pub mod Runs
pub mod Renewal
pub mod Told
