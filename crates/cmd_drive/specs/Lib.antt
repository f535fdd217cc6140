pub mod Asked
pub mod Guides
pub mod Dialled
pub mod Drive
pub mod Given
pub mod AskedRehearse
pub mod Rehearse
pub mod Simulating
