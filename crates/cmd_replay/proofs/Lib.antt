mod StopLaws
pub mod OnceLaws
