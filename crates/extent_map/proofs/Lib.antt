-- Lemmas on free runs, and on the extents that are out. `SameInAnyOrder` is for callers too.
mod EntriesAreExtents
mod FewRuns
mod GivenBackIsFree
mod HeldOrFree
mod OutInAnyOrder
mod RunsHavePages
pub mod SameInAnyOrder
mod TakenIsOut
