pub mod Asked
pub mod Logged
pub mod Replay
pub mod Migrate
pub mod Given
