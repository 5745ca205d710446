-- Lemmas on rows: what arrays of arrays cost, and that what follows is determined.
mod MadeOrLacking
mod OneOutcome
mod RowsByKind
mod StoresAlone
pub mod TreesCost
