-- Each method so far announces the throwables of a remote call.
use Rattle.std.proofs.Common.{ℕ, ◌<◌}
use Rattle.shared_interfaces.specs.Shapes.{IsSilentAt}
use Rattle.shared_interfaces.proofs.remote.first_silent.Given as goal

abbrev pub invariant-loop-i : goal.invariant-loop-i
invariant-loop-i l = (n : ℕ) → n < l.i → IsSilentAt l.methods l.declared l.passed n → ⊥
