-- What contracts say of bytes and of the units that they spell.
pub mod UnitsOrFault
pub mod Encodings
