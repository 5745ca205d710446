-- What is known of the rows of typing, and of the steps by which the code takes them.
mod AtPlaces
mod EachReplaced
mod EntriesTaken
mod EntryMoved
mod LocalsAreDone
mod LocalsKeepHalves
mod OneShape
pub mod RowsAreDetermined
mod RowsAreDone
pub mod RowsAreMonotone
mod RowsCutStacks
mod RowsFitLocals
pub mod RowsKeepLocals
mod RowsMeetDemands
pub mod RowsStart
mod SameGroups
mod StartsAreFrames
mod StepsAreRows
mod TopOfAStack
