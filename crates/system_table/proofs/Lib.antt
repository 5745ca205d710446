-- Lemmas on the classes of the table, and on the code's records of them.
pub mod DescriptorsAreTypes
mod FirstOfAName
pub mod LawsOfTheTable
mod RecordsAreEntries
