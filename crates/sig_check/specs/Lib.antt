pub mod Checked
pub mod Joints
pub mod Findings
