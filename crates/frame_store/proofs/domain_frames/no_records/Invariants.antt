-- So many records are made.
use Rattle.std.proofs.Common.{◌≡◌, length, vec_capacity}
use Rattle.frame_store.proofs.domain_frames.no_records.Given as goal

abbrev pub invariant-loop : goal.invariant-loop
invariant-loop l = (length l.records.items ≡ l.counter) × (vec_capacity l.records ≡ l.count)
