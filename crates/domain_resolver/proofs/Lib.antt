-- Lemmas on the lines and words of a `resolver.txt`, on the indexes of the types, and on imports.
mod BroughtInTurn
mod ClassOfANumber
mod EntryOfAName
mod LiveDomainsFound
mod NameIndexKept
mod NamesInTheMap
mod OffersInOrder
mod PlacesInLists
pub mod ReachedClassesNamed
pub mod SystemClassesAlone
