-- The heaps are ready still.
use Rattle.copy_check.specs.ReadyHeaps.{IsReady}
use Rattle.copy_check.proofs.random_tests.make_some.Given as goal

abbrev pub invariant-loop : goal.invariant-loop
invariant-loop g l = IsReady (g.H.ObjectStore.content l.store) l.t
