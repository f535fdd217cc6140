pub mod OnceLaws
