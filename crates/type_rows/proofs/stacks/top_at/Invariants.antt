-- The entries from this place on have the slots that aren't left.
use Rattle.std.proofs.Common.{◌≡◌, ◌+◌, ◌≤◌, length, drop}
use Rattle.jk_model_typing.specs.FrameTypes.{slots}
use Rattle.type_rows.proofs.stacks.top_at.Given as goal

abbrev pub invariant-loop-left : goal.invariant-loop-left
invariant-loop-left l = (l.k ≤ length l.stack) × (l.left + slots (drop l.k l.stack) ≡ l.n)

abbrev pub decreases-loop-left : goal.decreases-loop-left
decreases-loop-left l = l.left
