pub mod ClassesInOrder
pub mod FolderTables
pub mod JudgedClasses
pub mod LinkedFolders
pub mod LoadAnswers
pub mod OffersOfLines
pub mod OwnClasses
pub mod Refusals
