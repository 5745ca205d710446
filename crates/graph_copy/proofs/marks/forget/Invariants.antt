-- Whichever queue it is that has this head, its objects up to the next one are forgotten.
use Rattle.std.proofs.Common.{◌≡◌, ℕ, List}
use Rattle.graph_copy.specs.Queues.{IsQueue, head_of}
use Rattle.graph_copy.proofs.QueuesForgotten.{ForgotSoFar, left_to_forget}
use Rattle.graph_copy.proofs.marks.forget.Given as goal

abbrev pub invariant-loop-next : goal.invariant-loop-next
invariant-loop-next g l =
    (names : List ℕ) → IsQueue (g.H.ObjectStore.content l.fn.store) l.d names → l.fn.head ≡ head_of names
    → ForgotSoFar (g.H.ObjectStore.content l.fn.store) (g.H.ObjectStore.content l.store) l.d l.next names

abbrev pub decreases-loop-next : goal.decreases-loop-next
decreases-loop-next g l = left_to_forget (g.H.ObjectStore.content l.store) l.d
