pub mod CallRows
pub mod Examples
pub mod Targets
