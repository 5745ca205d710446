-- The places so far to which it goes are lower.
use Rattle.std.proofs.Common.{◌≡◌, ℕ, ◌<◌, Some, slice_get}
use Rattle.name_rules.specs.Graphs.{HasEdge}
use Rattle.name_rules.proofs.heights.goes_high.Given as goal

abbrev pub invariant-loop-j : goal.invariant-loop-j
invariant-loop-j l = (j n : ℕ) → j < l.j → HasEdge l.rows l.i j → slice_get l.heights j ≡ Some n → n < l.least
