pub mod Answers
pub mod BoundNames
pub mod CapabilityCalls
pub mod Examples
pub mod KnownStubs
pub mod Segments
pub mod SharedStates
