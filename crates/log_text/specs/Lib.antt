pub mod Printed
pub mod Logs
pub mod Faults
pub mod Adding
