-- The proofs of the laws.
pub mod ConversionsAgree
pub mod DoneByKind
pub mod FramesReplaced
pub mod InstructionKinds
pub mod LoadsAgree
pub mod OneMadeByName
pub mod RowsAgree
pub mod RowsOfTables
