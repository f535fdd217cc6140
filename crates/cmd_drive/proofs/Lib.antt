mod RuleLaws
mod JudgeLaws
mod SimulateLaws
mod DialLaws
mod LedLaws
mod ReportLaws
mod StopLaws
pub mod OnceLaws
