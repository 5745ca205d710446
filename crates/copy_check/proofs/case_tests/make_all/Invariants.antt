-- The heaps are ready still.
use Rattle.copy_check.specs.ReadyHeaps.{IsReady}
use Rattle.copy_check.proofs.case_tests.make_all.Given as goal

abbrev pub invariant-loop-shape : goal.invariant-loop-shape
invariant-loop-shape g l = IsReady (g.H.ObjectStore.content l.store) l.t
