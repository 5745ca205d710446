pub mod AnsweredCalls
pub mod Confined
pub mod Events
pub mod Examples
pub mod Sealed
pub mod Starts
pub mod Steps
