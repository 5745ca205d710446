-- What the verifier keeps while it goes over a code, and what holds when it is done.
pub mod Climbs
pub mod Covers
pub mod Known
pub mod Leaders
pub mod Marks
pub mod Progress
pub mod Ranges
pub mod Rises
pub mod SettledCodes
pub mod Settling
pub mod Tasks
pub mod Unrolling
pub mod Walking
