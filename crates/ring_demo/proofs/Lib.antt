-- Lemmas on the demo's events and on its files.
pub mod EventsInOrder
pub mod NeverFails
pub mod NewPaths
pub mod RingNames
