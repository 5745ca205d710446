-- The heaps are ready still.
use Rattle.copy_check.specs.ReadyHeaps.{IsReady}
use Rattle.copy_check.proofs.random_tests.fill.Given as goal

abbrev pub invariant-loop-i : goal.invariant-loop-i
invariant-loop-i g l = IsReady (g.H.ObjectStore.content l.store) l.t
