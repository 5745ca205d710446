-- Lemmas on a domain's own state.
mod BegunInTurn
mod ByKey
mod FieldOfAnIndex
mod FirstState
mod ListedInOrder
mod LiteralsByPlace
mod MarkedTexts
mod MissingFound
mod PartAdded
mod PartChanged
mod PartOfAClass
mod PlaceOfAText
mod PlacesInLists
mod RestoredState
pub mod SameElements
mod TextAdded
mod TextsInTurn
mod WhatIsThere
