pub mod AnsweringFrames
pub mod ClassesInProgress
pub mod FittingFrames
pub mod SealedInsides
pub mod SealedRuns
