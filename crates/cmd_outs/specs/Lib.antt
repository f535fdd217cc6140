pub mod Asked
pub mod Outs
pub mod Taken
pub mod Followed
