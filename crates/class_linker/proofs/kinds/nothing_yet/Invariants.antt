-- The list so far is nothing, as often as it is long.
use Rattle.std.proofs.Common.{◌≡◌, ◌-◌, ◌≤◌, None, length, replicate}
use Rattle.class_linker.proofs.kinds.nothing_yet.Given as goal

abbrev pub invariant-loop-list : goal.invariant-loop-list
invariant-loop-list g l = (l.list ≡ replicate (length l.list) None) × (length l.list ≤ l.count)

abbrev pub decreases-loop-list : goal.decreases-loop-list
decreases-loop-list g l = l.count - length l.list
