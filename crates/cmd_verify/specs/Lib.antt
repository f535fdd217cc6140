pub mod Asked
pub mod Verify
pub mod Printable
