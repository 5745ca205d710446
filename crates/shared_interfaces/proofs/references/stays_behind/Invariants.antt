-- The class goes along with each offer so far.
use Rattle.shared_interfaces.specs.Shapes.{StaysBehind}
use Rattle.shared_interfaces.proofs.references.stays_behind.Given as goal

abbrev pub invariant-loop-i : goal.invariant-loop-i
invariant-loop-i l = StaysBehind l.w l.home l.offers l.start l.i l.c → ⊥
