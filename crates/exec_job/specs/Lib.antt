pub mod Answer
pub mod Apply
pub mod Element
pub mod Fault
pub mod Takes
