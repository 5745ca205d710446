-- What tests ask.
pub mod SmallPool
