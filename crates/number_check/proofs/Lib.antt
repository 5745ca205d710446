-- What is known of the frame that a test runs, and of the tests that stand for what the definitions ask.
pub mod OneTopFrame
pub mod FramesBegin
pub mod FramesGoOn
pub mod LocalsRead
pub mod OpcodesOfNumbers
pub mod ReferencesFit
mod StandsHere
