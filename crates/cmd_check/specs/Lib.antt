pub mod Asked
pub mod Check
pub mod Printable
