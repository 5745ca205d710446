-- What contracts say of words.
pub mod Ownership
pub mod Readable
