pub mod ItemChanges
pub mod KnownItems
pub mod ObjectsMade
pub mod TextChanges
