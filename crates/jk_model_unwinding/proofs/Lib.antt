-- Lemmas for worked examples, those of crates above too.
mod ClassesOfThrowables
pub mod RunningCodes
