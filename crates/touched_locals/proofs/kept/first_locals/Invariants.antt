-- The locals so far are kept.
use Rattle.std.proofs.Common.{◌≡◌, ℕ, ◌<◌, Some, length}
use Rattle.std.specs.List.{slice_get}
use Rattle.touched_locals.specs.KeptLocals.{IsRising}
use Rattle.touched_locals.proofs.kept.first_locals.Given as goal

abbrev pub invariant-loop-n : goal.invariant-loop-n
invariant-loop-n l = record {
  many : length l.kept.items ≡ l.n;
  rising : IsRising 0 l.kept.items l.n;
  all : (k : ℕ) → k < l.n → slice_get l.kept.items k ≡ Some k;
}
