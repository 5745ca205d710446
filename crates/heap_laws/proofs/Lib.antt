pub mod AlikeObjects
pub mod CopiesAreSealed
pub mod CopiesAreThere
pub mod CopiesCostTheSame
pub mod CopiesFit
pub mod CostsWithinHeaps
pub mod DistinctNumbers
pub mod FreshNames
pub mod GrownHeaps
pub mod KindsOfTypes
pub mod LaidOut
pub mod MappedLists
pub mod NewObjects
pub mod ObjectsAfterChanges
mod OwnStatesKept
pub mod ReachIsClosed
pub mod ReachIsListed
pub mod SealedGraphs
pub mod SealedStill
mod StaticsAfterChanges
pub mod StillFits
