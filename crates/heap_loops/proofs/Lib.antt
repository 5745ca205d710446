-- How texts and arrays of a store change item by item.
pub mod HeapsBecome
mod ItemsCopied
mod ItemsThatFit
mod KindsOfElements
pub mod NamesApart
mod RangesOfLists
pub mod TreesOfRows
mod TreesSoFar
pub mod UnitsSoFar
mod WordsOfCounts
