pub mod CertLaws
pub mod PrintableLaws
pub mod OnceLaws
pub mod UsualLaws
pub mod FitLaws
pub mod AskableLaws
