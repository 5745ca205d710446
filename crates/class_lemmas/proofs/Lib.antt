-- Lemmas on the definitions of jk_model_classes that several crates cite.
pub mod ArraysHaveNoNames
pub mod ClassesBelow
pub mod ClassesInDescriptors
pub mod CodeOfMethods
pub mod EntriesAreGood
pub mod LinksToMembers
pub mod LowerClassesDecide
pub mod NamesOfTables
pub mod OneMember
pub mod OneRecord
pub mod OneReference
pub mod OneText
pub mod PathsInOrder
pub mod ReachedByReferences
pub mod SomeItem
