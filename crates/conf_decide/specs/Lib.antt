pub mod Told
pub mod Decided
pub mod Table
pub mod Progress
