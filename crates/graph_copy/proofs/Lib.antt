-- Why the marks of objects hold queues and chains, what is found on them is all that is reached, and what is made is a copy of it.
mod AnswersFound
mod ChainsFilled
pub mod ChainsForgotten
mod CopiesMade
pub mod FieldsByPlace
mod KindsKnown
mod MarkedObjects
mod NamesShared
mod ObjectsFinished
mod ObjectsLaid
mod ObjectsMet
mod ObjectsVisited
mod OneFilled
pub mod PlacesFilled
mod PlacesWalked
mod QueuesForgotten
mod ReachFound
mod WalksGoOn
mod WordsFound
