-- What the contracts and the invariants of thread_segments say.
pub mod Answers
pub mod Asked
pub mod ClassedRanges
pub mod DomainEntries
pub mod DomainsEnding
pub mod KnownStubs
pub mod NameEntries
pub mod RestoredParts
pub mod RestoredStates
pub mod SoundLaws
pub mod SoundStates
pub mod StateParts
pub mod StubPlaces
