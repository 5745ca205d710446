-- What an accepted folder adds keeps all classes and names sound.
pub mod NamesOfTables
pub mod WalksWithin
pub mod NewClasses
pub mod FoundByLinks
pub mod ArraysHaveNoNames
pub mod TypesByNames
pub mod NamesSayTypes
pub mod ReferencesAround
pub mod TablesAgain
pub mod StaticMembers
pub mod SoundAgain
pub mod FirstClasses
