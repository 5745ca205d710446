-- The runs that the search has passed are too short.
use Rattle.std.proofs.Common.{◌≤◌, length, drop}
use Rattle.extent_map.specs.Runs.{AreShort}
use Rattle.extent_map.proofs.runs.fitting.Given as goal

abbrev pub invariant-loop-at : goal.invariant-loop-at
invariant-loop-at l = (l.at ≤ length l.runs) × AreShort l.pages (drop l.at l.runs)

abbrev pub decreases-loop-at : goal.decreases-loop-at
decreases-loop-at l = l.at
