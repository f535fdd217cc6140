pub mod SystemLaws
pub mod OnceLaws
