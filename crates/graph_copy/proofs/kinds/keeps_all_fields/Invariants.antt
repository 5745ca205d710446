-- What stands at each place before this one is kept.
use Rattle.std.proofs.Common.{◌≡◌, ℕ, ◌<◌, true}
use Rattle.graph_copy.specs.Places.{is_kept_at}
use Rattle.graph_copy.proofs.kinds.keeps_all_fields.Given as goal

abbrev pub invariant-loop-i : goal.invariant-loop-i
invariant-loop-i l = (k : ℕ) → k < l.i → is_kept_at l.t l.shape k ≡ true
