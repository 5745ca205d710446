pub mod Faults
pub mod FileAnswers
pub mod FolderClasses
pub mod RuleOrder
