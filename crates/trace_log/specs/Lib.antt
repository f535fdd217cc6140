pub mod Verdict
pub mod Following
