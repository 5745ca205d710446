-- Lemmas on heaps that several crates cite, and on the worked examples.
pub mod ArraysInHeaps
mod ExampleCapabilities
pub mod FieldsInOrder
pub mod NamesInHeaps
pub mod OneIsMade
pub mod TypesApart
