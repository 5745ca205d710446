-- So many items fit.
use Rattle.heap_loops.proofs.ItemsThatFit.{FitsSoFar}
use Rattle.heap_loops.proofs.fits.fitting_items.Given as goal

abbrev pub invariant-loop-i : goal.invariant-loop-i
invariant-loop-i g l =
    FitsSoFar l.t (g.C.CapabilityTests.known l.caps) (g.H.ObjectStore.content l.heap) l.d l.source l.from l.kind l.i
