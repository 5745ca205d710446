-- Lemmas on the definitions, and on std's words, that several crates use.
pub mod AppendsInTurn
pub mod CountsNeverFall
pub mod EachItem
pub mod EmptyByLength
pub mod PlainBytesAreTexts
mod SmallestClass
