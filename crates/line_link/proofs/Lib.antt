pub mod GainLaws
pub mod PieceLaws
pub mod HearLaws
pub mod CutLaws
pub mod OnceLaws
