-- Whichever queue it is that has this head, its objects up to the next one are laid; the words that are left grow fewer.
use Rattle.std.proofs.Common.{◌≡◌, ℕ, List}
use Rattle.object_store.specs.HeapContents.{words_left}
use Rattle.graph_copy.specs.Queues.{IsQueue, head_of}
use Rattle.graph_copy.proofs.ObjectsLaid.{LaidSoFar}
use Rattle.graph_copy.proofs.laying.lay.Given as goal

abbrev pub invariant-loop-next : goal.invariant-loop-next
invariant-loop-next g l =
    (names : List ℕ) → IsQueue (g.H.ObjectStore.content l.fn.store) l.from names → l.fn.head ≡ head_of names
    → LaidSoFar (g.H.ObjectStore.content l.fn.store) (g.H.ObjectStore.content l.store) l.t l.from l.to l.next l.first names

abbrev pub decreases-loop-next : goal.decreases-loop-next
decreases-loop-next g l = words_left (g.H.ObjectStore.content l.store) l.to
