pub mod BucketLaws
pub mod LinkLaws
pub mod RingLaws
pub mod SettlingLaws
pub mod RunLaws
pub mod WheelLaws
