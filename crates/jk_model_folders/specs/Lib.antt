pub mod ClassOrder
pub mod FolderRules
pub mod FolderTrees
pub mod LinkedClasses
pub mod Loads
