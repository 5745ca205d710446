-- What contracts say of what references find, at entries, at instructions and over whole classes.
pub mod FinalFields
pub mod FinalMethods
pub mod FolderFinals
pub mod LinkFaults
pub mod LinkedInstrs
pub mod MetFinals
pub mod MissingMembers
pub mod RefusedEntries
pub mod WrongMembers
