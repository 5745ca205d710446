-- So many units are written.
use Rattle.heap_loops.proofs.UnitsSoFar.{WrittenSoFar}
use Rattle.heap_loops.proofs.texts.write_units.Given as goal

abbrev pub invariant-loop-i : goal.invariant-loop-i
invariant-loop-i g l = WrittenSoFar (g.H.ObjectStore.content l.fn.heap) (g.H.ObjectStore.content l.heap) l.d l.a l.from l.units l.i
