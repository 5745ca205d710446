-- Lemmas on texts and the units that they spell. `OneReading` is for callers too.
mod OneJudgment
pub mod OneReading
