-- What a tree of entries says.
pub mod Building
pub mod Covering
