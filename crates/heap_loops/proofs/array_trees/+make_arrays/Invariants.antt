-- So many items are made; there is a count less below.
use Rattle.std.proofs.Common.{length}
use Rattle.heap_loops.proofs.TreesSoFar.{TreeSoFar}
use Rattle.heap_loops.proofs.array_trees.+make_arrays.Given as goal

abbrev pub invariant-loop-i : goal.invariant-loop-i
invariant-loop-i g l = TreeSoFar (g.H.ObjectStore.content l.fn.heap) (g.H.ObjectStore.content l.heap) l.t l.d l.element l.more l.i-end l.a l.i

abbrev pub decreases-make_arrays : goal.decreases-make_arrays
decreases-make_arrays g l = length l.counts.now
