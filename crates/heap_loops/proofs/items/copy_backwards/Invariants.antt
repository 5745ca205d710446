-- All items but so many in front are copied.
use Rattle.std.proofs.Common.{◌+◌, ◌-◌}
use Rattle.heap_loops.proofs.ItemsCopied.{CopiesRange}
use Rattle.heap_loops.proofs.items.copy_backwards.Given as goal

abbrev pub invariant-loop-i : goal.invariant-loop-i
invariant-loop-i g l =
    CopiesRange (g.H.ObjectStore.content l.fn.heap) (g.H.ObjectStore.content l.heap) l.d l.source (l.from + l.i) l.target (l.to + l.i) (l.count - l.i)
