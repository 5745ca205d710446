-- Lemmas on descriptors: how they are read, and where other units stop. `NoTextBeginsAnother` is for callers too.
mod NamesAreWalks
pub mod NoTextBeginsAnother
mod OneTypeOrPlace
mod PartStopsTheWhole
