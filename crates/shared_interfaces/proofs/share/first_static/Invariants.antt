-- No field so far is static.
use Rattle.std.proofs.Common.{ℕ, ◌+◌, ◌<◌}
use Rattle.shared_interfaces.specs.Shapes.{IsStaticAt}
use Rattle.shared_interfaces.proofs.share.first_static.Given as goal

abbrev pub invariant-loop-i : goal.invariant-loop-i
invariant-loop-i l = (n : ℕ) → n < l.i + 1 → IsStaticAt l.fields n → ⊥
