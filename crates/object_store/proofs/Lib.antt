-- What follows of the words of contents: for the crates that work on objects in a store.
pub mod KindsOfValues
pub mod ObjectsByName
pub mod ObjectsWritten
pub mod PlainCosts
