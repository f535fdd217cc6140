pub mod ManyLaws
pub mod PieceLaws
pub mod NameLaws
pub mod LengthLaws
pub mod ReferenceLaws
pub mod TagLaws
pub mod WrittenLaws
pub mod WrittenUtf8
