pub mod Finds
pub mod Taus
pub mod Rows
pub mod Places
