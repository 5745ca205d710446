-- What contracts and invariants say of tables of numbers.
pub mod ChainMoves
pub mod Chains
pub mod Entries
pub mod NumberPlaces
pub mod TableMoves
