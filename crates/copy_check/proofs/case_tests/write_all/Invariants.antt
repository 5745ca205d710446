-- The heaps are ready still.
use Rattle.copy_check.specs.ReadyHeaps.{IsReady}
use Rattle.copy_check.proofs.case_tests.write_all.Given as goal

abbrev pub invariant-loop-values : goal.invariant-loop-values
invariant-loop-values g l = IsReady (g.H.ObjectStore.content l.store) l.t
