mod TableLaws
mod SearchLaws
mod WrongLaws
mod RunLaws
mod TestLaws
mod LookLaws
mod EndLaws
pub mod GrowLaws
pub mod OpeningLaws
pub mod OnceLaws
pub mod DepthLaws
