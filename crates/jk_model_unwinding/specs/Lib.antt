pub mod Examples
pub mod Unwinding
