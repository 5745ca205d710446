-- What contracts say of the names of classes in a folder.
pub mod BadHierarchies
pub mod FolderEdges
pub mod FolderNames
pub mod Graphs
pub mod KnownNames
pub mod Marks
