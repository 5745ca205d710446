-- Lemmas on the definitions of jk_model that several crates cite.
pub mod ClassNamesDecided
pub mod ClassesInLists
pub mod LastSlash
pub mod LinesInTurn
pub mod NamesByTest
pub mod OneReading
pub mod PartsAreShort
pub mod PlacesOfInstrs
pub mod SameNumbers
pub mod TextsAreLong
pub mod WordsInTurn
