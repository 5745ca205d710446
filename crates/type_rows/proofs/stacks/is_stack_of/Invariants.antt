-- The entries so far can be used, and have the room that isn't left.
use Rattle.std.proofs.Common.{◌≡◌, ◌+◌, take}
use Rattle.std.specs.List.{AllByRecursion}
use Rattle.jk_model_typing.specs.FrameTypes.{IsUsable, slots}
use Rattle.type_rows.proofs.stacks.is_stack_of.Given as goal

abbrev pub invariant-loop-v : goal.invariant-loop-v
invariant-loop-v l =
    (l.room + slots (take l.v-index l.stack) ≡ l.code.max_stack) × AllByRecursion IsUsable (take l.v-index l.stack)
