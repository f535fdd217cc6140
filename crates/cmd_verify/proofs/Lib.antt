pub mod CheckLaws
mod StopLaws
pub mod OnceLaws
