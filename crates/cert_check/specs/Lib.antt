pub mod Numbers
pub mod Quiet
pub mod Present
pub mod Runs
pub mod Checks
pub mod Progress
pub mod Index
