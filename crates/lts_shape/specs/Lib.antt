pub mod Peel
pub mod Cycle
pub mod Groups
pub mod Marks
pub mod Inputs
pub mod Choice
pub mod Angelic
