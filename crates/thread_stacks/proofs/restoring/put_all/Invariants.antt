-- The segments so far are put, and there is room for the others.
use Rattle.std.proofs.Common.{◌≡◌, take, vec_capacity}
use Rattle.thread_stacks.specs.LiveStacks.{ArePut}
use Rattle.thread_stacks.proofs.restoring.put_all.Given as goal

abbrev pub invariant-loop-part : goal.invariant-loop-part
invariant-loop-part l = record {
  put : ArePut l.fn.entries.items l.entries.items l.slots.items l.fn.newest.items l.newest.items (take l.part-index l.placed);
  entries_room : vec_capacity l.entries ≡ vec_capacity l.fn.entries;
  slots_room : vec_capacity l.slots ≡ vec_capacity l.fn.slots;
}
