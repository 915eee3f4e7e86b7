-- Traces: the picture of a trace.
pub mod Layout
pub mod Frames
pub mod Armed
pub mod Bars
pub mod Rows
pub mod Headings
pub mod Picture
