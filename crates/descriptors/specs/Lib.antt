-- The texts of the parts of a descriptor, where units stop being one, and what is answered.
pub mod Stops
pub mod Names
pub mod PartTexts
pub mod TypeOrPlace
