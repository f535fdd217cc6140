pub mod Printed
pub mod Certificate
pub mod Numbers
pub mod Faults
pub mod Adding
