-- Lemmas on words. `ReadAfterWriting` is for callers too.
mod BlockIsLent
mod ClearedOneMore
pub mod ReadAfterWriting
mod WordsAreMemory
