-- Lemmas of openings and starts.
mod AddedKernels
mod ClosedStores
mod DescriptorOfMain
mod FirstSegments
mod FoldersOpen
mod LoadingKernels
mod MainOfAClass
pub mod NamedDomains
mod OneAnswer
mod OpenedInsides
mod OpenedKernels
mod OpenedOrNot
mod OpenedWorlds
mod OpeningsAnswered
mod PartsAfterOpenings
mod PartsByPlace
mod StandingSoFar
mod StartedMachines
mod StartedParts
mod StartsOfParts
mod StartsRefused
mod ThreadsThatBegin
mod WordsSoFar
