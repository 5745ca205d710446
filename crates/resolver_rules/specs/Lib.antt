-- What contracts say of the lines of a `resolver.txt`, and of the names that they bring in.
pub mod ClassNames
pub mod Faults
pub mod Imported
pub mod Lines
pub mod SystemNames
