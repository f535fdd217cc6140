pub mod Size
pub mod Systems
pub mod Demo
pub mod Named
