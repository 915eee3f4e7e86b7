pub mod FillLaws
pub mod FolderLaws
pub mod LineLaws
pub mod OutcomeLaws
pub mod PutLaws
pub mod ReadLaws
pub mod WindowLaws
pub mod OneReading
