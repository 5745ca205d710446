-- As many places were added as turns were taken, and there is room for the others.
use Rattle.std.proofs.Common.{◌≡◌, ◌+◌, ◌-◌, ◌≤◌, ◌++◌, replicate, vec_len, vec_capacity}
use Rattle.thread_segments.specs.ClassedRanges.{no_class}
use Rattle.thread_segments.proofs.capabilities.fill.Given as goal

abbrev pub invariant-loop : goal.invariant-loop
invariant-loop l = record {
  items : l.classes.items ≡ l.fn.classes.items ++ replicate l.counter no_class;
  room : vec_len l.classes + (l.count - l.counter) ≤ vec_capacity l.classes;
}
