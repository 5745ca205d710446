-- When instructions on numbers may be done and what they make of a store, and the words of the crate's own contracts.
pub mod Entries
pub mod NumberSteps
pub mod Operands
pub mod Parts
pub mod TopChanges
