-- Lemmas on chains, and on tables of entries.
pub mod EntriesListed
pub mod EntriesOfANumber
pub mod EntryIsPut
pub mod EntryIsTaken
pub mod FreeChains
pub mod MovesKeepChains
pub mod NodeOfAKey
pub mod PlacesApart
pub mod SumsBelow
pub mod TableIsMoved
