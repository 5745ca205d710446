-- What contracts and invariants say of the ranges of a table.
pub mod Places
