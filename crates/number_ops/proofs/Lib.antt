-- What is known of changes of a store's top frame, and of what instructions find there.
mod BothOnTop
mod Calculations
mod CasesByKey
mod Comparisons
mod EntriesOnTop
pub mod EntriesTaken
mod FindsOperands
mod FoundOperands
pub mod HeadAsStored
mod LocalsUsed
mod OpcodesAmong
mod PartsOfOpcodes
mod SlotsTaken
mod StepsDone
pub mod TopFrames
