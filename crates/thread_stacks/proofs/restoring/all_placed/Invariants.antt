-- The segments of the threads so far are placed.
use Rattle.std.proofs.Common.{◌≡◌, take}
use Rattle.thread_stacks.specs.LiveStacks.{placed_parts}
use Rattle.thread_stacks.proofs.restoring.all_placed.Given as goal

abbrev pub invariant-loop-part : goal.invariant-loop-part
invariant-loop-part l = l.placed.items ≡ placed_parts (take l.part-index l.parts)
