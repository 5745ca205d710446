-- Lemmas on indexes of members.
pub mod OrderOfEntries
pub mod EntriesOfMarks
pub mod RunOfEntries
pub mod FirstOfARun
pub mod FoundInClass
