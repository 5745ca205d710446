-- So many units are copied.
use Rattle.heap_loops.proofs.UnitsSoFar.{CopiedSoFar}
use Rattle.heap_loops.proofs.texts.copy_units.Given as goal

abbrev pub invariant-loop-i : goal.invariant-loop-i
invariant-loop-i g l =
    CopiedSoFar (g.H.ObjectStore.content l.fn.heap) (g.H.ObjectStore.content l.heap) l.d l.source l.from l.target l.to l.i
