-- What contracts say of class files that are linked.
pub mod KnownCodes
pub mod KnownConstants
pub mod KnownDescriptors
pub mod KnownMembers
pub mod KnownReferences
pub mod KnownTypes
pub mod LinkParts
pub mod LinkedFiles
pub mod LinksSoFar
pub mod Scopes
pub mod TextsSaid
pub mod ThrownClasses
