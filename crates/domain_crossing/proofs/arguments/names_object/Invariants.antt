-- None of the entries that were read is an object.
use Rattle.std.proofs.Common.{◌≡◌, ℕ, ◌-◌, ◌<◌, List, length, slice_get, Some}
use Rattle.jk_model.specs.declared.values.Value.{Value}
use Rattle.domain_crossing.specs.MovedArguments.{HasOnTop}
use Rattle.domain_crossing.specs.NoObjects.{IsNoObject}
use Rattle.domain_crossing.proofs.arguments.names_object.Given as goal

abbrev pub invariant-loop-above : goal.invariant-loop-above
invariant-loop-above g l =
    (values : List Value) → HasOnTop (g.F.SegmentFrames.content l.frames) l.s values → length values ≡ l.count → (k : ℕ) → k < l.above → (v : Value)
    → slice_get values (length values - 1 - k) ≡ Some v → IsNoObject v
