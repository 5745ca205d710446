-- What a call makes of the store of frames.
pub mod CallSteps
pub mod CodeTargets
pub mod FramesRun
