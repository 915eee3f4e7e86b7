-- A step on the control word of a node under way, whatever its kind: what is so of the state, and of what it leaves.
pub mod State
pub mod Seats
pub mod Homes
pub mod Items
pub mod Views
