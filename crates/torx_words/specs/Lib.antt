pub mod Form
pub mod Values
pub mod Accepted
pub mod Options
pub mod Meaning
pub mod Named
pub mod Taken
pub mod Parsed
