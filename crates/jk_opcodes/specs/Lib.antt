pub mod Answer
pub mod Errors
pub mod Formats
pub mod Plain
pub mod Reading
pub mod Steps
pub mod Switches
