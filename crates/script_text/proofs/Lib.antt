pub mod ReadLaws
pub mod OnceLaws
