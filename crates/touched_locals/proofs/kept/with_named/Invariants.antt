-- The locals so far rise, and the first ones stay.
use Rattle.std.proofs.Common.{◌≡◌, ℕ, ◌<◌, ◌≤◌, Some}
use Rattle.std.specs.List.{slice_get}
use Rattle.touched_locals.specs.KeptLocals.{IsRising}
use Rattle.touched_locals.proofs.kept.with_named.Given as goal

abbrev pub invariant-loop-n : goal.invariant-loop-n
invariant-loop-n l = record {
  rising : IsRising 0 l.kept.items l.next;
  within : l.next ≤ l.fn.count;
  all : (k : ℕ) → k < l.fn.first → slice_get l.kept.items k ≡ Some k;
}
