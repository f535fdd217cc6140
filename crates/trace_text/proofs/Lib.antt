pub mod ItemLaws
mod ReadLaws
pub mod OnceLaws
pub mod PrintLaws
