pub mod CutLaws
pub mod DealtLaws
pub mod DealtRunLaws
pub mod JoinLaws
pub mod RunLaws
