-- Lemmas on raising and unwinding in stores.
pub mod CaughtAtTop
pub mod FramesChanged
pub mod InitialisersLeft
pub mod InsidesChanged
pub mod KnownDomains
pub mod Midway
pub mod PlacesTried
pub mod UnwindingTurns
