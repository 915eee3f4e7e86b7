pub mod Adder
pub mod Answers
pub mod AnyPlan
pub mod OneHand
pub mod Streams
