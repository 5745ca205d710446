pub mod CutIsBeginning
pub mod Layouts
pub mod OneNumber
pub mod OneReading
pub mod PartsAreBytes
pub mod Reading
