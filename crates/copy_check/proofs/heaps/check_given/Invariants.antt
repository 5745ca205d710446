-- The values up to the place may be given.
use Rattle.std.proofs.Common.{◌≡◌, ℕ, ◌<◌, Some, slice_get}
use Rattle.jk_model.specs.declared.values.Value.{Value}
use Rattle.graph_copy.specs.AskedOfCopies.{MayBeGiven}
use Rattle.copy_check.proofs.heaps.check_given.Given as goal

abbrev pub invariant-loop-i : goal.invariant-loop-i
invariant-loop-i g l =
    (k : ℕ) (v : Value) → k < l.i → slice_get l.values k ≡ Some v → MayBeGiven ((g.H.ObjectStore.content l.store).heap l.d) v
