-- The segments so far are placed behind the others.
use Rattle.std.proofs.Common.{◌≡◌, ◌++◌, map, take}
use Rattle.thread_stacks.specs.LiveStacks.{placed_at}
use Rattle.thread_stacks.proofs.restoring.place_all.Given as goal

abbrev pub invariant-loop-segment : goal.invariant-loop-segment
invariant-loop-segment l = l.placed.items ≡ l.fn.placed.items ++ map (placed_at l.thread) (take l.segment-index l.segments)
