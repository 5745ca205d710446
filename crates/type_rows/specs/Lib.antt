-- A method's code as the contracts see it, and the words of the crate's own contracts.
pub mod CodeViews
pub mod OpcodeGroups
pub mod Operands
pub mod Shapes
pub mod ShapesOfGroups
pub mod Steps
