pub mod InstructionsBegin
pub mod KindsByOpcode
pub mod NeededClasses
pub mod OnePlace
