pub mod Hearing
pub mod AtHand
