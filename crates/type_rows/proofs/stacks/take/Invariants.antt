-- The entries for the last demands were taken.
use Rattle.type_rows.specs.CodeViews.{scope_of}
use Rattle.type_rows.specs.Shapes.{demands_view}
use Rattle.type_rows.proofs.EntriesTaken.{AreTakenFrom}
use Rattle.type_rows.proofs.stacks.take.Given as goal

abbrev pub invariant-loop-k : goal.invariant-loop-k
invariant-loop-k l = AreTakenFrom (scope_of l.view) (demands_view (scope_of l.view) l.demands) l.k l.fn.stack l.stack

abbrev pub decreases-loop-k : goal.decreases-loop-k
decreases-loop-k l = l.k
