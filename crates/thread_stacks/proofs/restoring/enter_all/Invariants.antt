-- The threads so far are entered, and there is room for the others.
use Rattle.std.proofs.Common.{◌≡◌, ◌+◌, ◌-◌, ◌≤◌, ◌++◌, length, map, take, vec_capacity, vec_len}
use Rattle.thread_stacks.specs.LiveStacks.{entry_without}
use Rattle.thread_stacks.proofs.restoring.enter_all.Given as goal

abbrev pub invariant-loop-part : goal.invariant-loop-part
invariant-loop-part l = record {
  items : l.entries.items ≡ l.fn.entries.items ++ map entry_without (take l.part-index l.parts);
  room : vec_len l.entries + (length l.parts - l.part-index) ≤ vec_capacity l.entries;
  capacity : vec_capacity l.entries ≡ vec_capacity l.fn.entries;
}
