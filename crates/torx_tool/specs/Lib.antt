pub mod Status
pub mod Commands
pub mod Run
pub mod Exact
pub mod Served
pub mod Headline
pub mod Audit
pub mod Program
