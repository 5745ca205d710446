-- How a domain ends in each part, and the lines of that.
pub mod ChunksLeft
pub mod KernelsEnded
pub mod PartsEnded
pub mod PrintedLines
pub mod SegmentsStay
pub mod ThreadsTold
