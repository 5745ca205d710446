-- The runs that the search has passed begin before the page.
use Rattle.std.proofs.Common.{◌≤◌, length, drop}
use Rattle.extent_map.specs.Runs.{BeginBefore}
use Rattle.extent_map.proofs.runs.place_of.Given as goal

abbrev pub invariant-loop-at : goal.invariant-loop-at
invariant-loop-at l = (l.at ≤ length l.runs) × BeginBefore l.first (drop l.at l.runs)

abbrev pub decreases-loop-at : goal.decreases-loop-at
decreases-loop-at l = l.at
