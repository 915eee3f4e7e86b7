pub mod CutLaws
pub mod CutterLaws
pub mod JoinLaws
pub mod LimitLaws
pub mod LineLaws
pub mod RecordLaws
pub mod TextLaws
