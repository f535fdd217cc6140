pub mod Replayed
pub mod Heads
pub mod Migrated
