-- The offers so far are of one class.
use Rattle.shared_interfaces.specs.Shapes.{IsRun}
use Rattle.shared_interfaces.proofs.references.end_of_run.Given as goal

abbrev pub invariant-loop-end : goal.invariant-loop-end
invariant-loop-end l = IsRun l.offers l.start l.end
