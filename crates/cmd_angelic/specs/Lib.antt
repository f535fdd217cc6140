pub mod Angelic
pub mod Named
