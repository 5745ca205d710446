-- Lemmas on ranges, and on the table of them.
pub mod OneRangePasses
pub mod PlaceOfAnOwner
pub mod PlaceOfANumber
pub mod RevokedByPlace
pub mod TableIsKept
