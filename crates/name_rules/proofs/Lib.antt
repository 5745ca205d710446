-- Lemmas on the names that class files say, on marks, and on graphs over places.
mod BadParts
mod EdgesMarked
mod EdgesOfRows
pub mod FolderGraph
mod HeightsRise
pub mod ItemsSoFar
pub mod MarksInTurn
mod NamesLacking
mod PathsThroughPlaces
mod PlacesInOrder
mod PlacesLeft
