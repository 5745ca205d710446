-- The derivations of the examples and laws, and what a kernel needs of segments with frames.
mod DomainsDiffer
pub mod ErasedSegments
mod OneAnswer
mod SegmentsLeft
