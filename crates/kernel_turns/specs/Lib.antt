-- What one step of one thread over the parts of a kernel is to the machine.
pub mod ActingAlone
pub mod GoingDown
pub mod LiveThreads
pub mod PaidSteps
pub mod RestingThreads
pub mod RunningPlaces
pub mod SegmentRuns
pub mod SteppedParts
pub mod StepsOfThreads
pub mod WorkingSegments
