pub mod NumberLaws
pub mod LineLaws
pub mod AddLaws
pub mod RunLaws
pub mod ReadLaws
pub mod LogsOnce
