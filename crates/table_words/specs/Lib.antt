pub mod Stamps
pub mod Controls
pub mod Blocks
pub mod ScopeNumbers
pub mod Layouts
