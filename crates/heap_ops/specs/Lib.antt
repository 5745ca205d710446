-- What an instruction on objects, and the fall of an initialiser's need, make of the stores.
pub mod ArrayCounts
pub mod ConstantTexts
pub mod ConstantsSet
pub mod HeapSteps
pub mod HeapValues
pub mod LiteralObjects
pub mod OneInstruction
pub mod TopEntries
