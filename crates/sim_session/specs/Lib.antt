pub mod Rehearsed
pub mod Along
