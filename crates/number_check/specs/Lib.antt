-- What the tests know of the frame that they run.
pub mod RunFrames
pub mod TypedFrames
