-- The heaps are ready still.
use Rattle.copy_check.specs.ReadyHeaps.{IsReady}
use Rattle.copy_check.proofs.random_tests.fill_all.Given as goal

abbrev pub invariant-loop-a : goal.invariant-loop-a
invariant-loop-a g l = IsReady (g.H.ObjectStore.content l.store) l.t
