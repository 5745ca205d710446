-- As many places were added as turns were taken, and there is room for the others.
use Rattle.std.proofs.Common.{◌≡◌, ◌+◌, ◌-◌, ◌≤◌, ◌++◌, replicate, vec_len, vec_capacity}
use Rattle.capability_table.proofs.table.fill.Given as goal

abbrev pub invariant-loop : goal.invariant-loop
invariant-loop l = record {
  items : l.places.items ≡ l.fn.places.items ++ replicate l.counter l.place;
  room : vec_len l.places + (l.count - l.counter) ≤ vec_capacity l.places;
}
