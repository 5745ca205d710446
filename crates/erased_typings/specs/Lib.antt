-- What is said of the frames of least typings, and of least typings with more classes behind.
pub mod ErasedFrames
pub mod LeastTypings
