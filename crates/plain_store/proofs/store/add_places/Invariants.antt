-- As many numbers were added as turns were taken, and there is room for the others.
use Rattle.std.proofs.Common.{◌≡◌, ◌+◌, ◌-◌, ◌≤◌, ◌++◌, None, replicate, vec_len, vec_capacity}
use Rattle.plain_store.proofs.store.add_places.Given as goal

abbrev pub invariant-loop : goal.invariant-loop
invariant-loop l = record {
  items : l.heaps.items ≡ l.fn.heaps.items ++ replicate l.counter None;
  room : vec_len l.heaps + (l.count - l.counter) ≤ vec_capacity l.heaps;
}
