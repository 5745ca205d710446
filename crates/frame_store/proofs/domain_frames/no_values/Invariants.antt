-- So many values are made.
use Rattle.std.proofs.Common.{◌≡◌, length, vec_capacity}
use Rattle.frame_store.proofs.domain_frames.no_values.Given as goal

abbrev pub invariant-loop : goal.invariant-loop
invariant-loop l = (length l.values.items ≡ l.counter) × (vec_capacity l.values ≡ l.count)
