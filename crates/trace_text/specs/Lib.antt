pub mod Items
pub mod Lines
pub mod Traces
pub mod Reading
