-- What the tests keep true of their heaps.
pub mod ReadyHeaps
