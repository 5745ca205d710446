-- So many items are copied.
use Rattle.heap_loops.proofs.ItemsCopied.{CopiesRange}
use Rattle.heap_loops.proofs.items.copy_forwards.Given as goal

abbrev pub invariant-loop-i : goal.invariant-loop-i
invariant-loop-i g l =
    CopiesRange (g.H.ObjectStore.content l.fn.heap) (g.H.ObjectStore.content l.heap) l.d l.source l.from l.target l.to l.i
