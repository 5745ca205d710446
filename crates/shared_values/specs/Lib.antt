-- What a fingerprint is, and what a hasher holds on the way to it.
pub mod Feeding
pub mod Fingerprints
