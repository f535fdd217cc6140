pub mod ReplayLaws
pub mod OnceLaws
