pub mod Adding
pub mod Plans
pub mod Traces
