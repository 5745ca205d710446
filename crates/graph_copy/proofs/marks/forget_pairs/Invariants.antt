-- Whichever chain it is that has this first source, its pairs up to the next one are forgotten.
use Rattle.std.proofs.Common.{◌≡◌, ℕ, List}
use Rattle.graph_copy.specs.Chains.{IsChain, first_source}
use Rattle.graph_copy.proofs.ChainsForgotten.{ForgotPairs, turns_left}
use Rattle.graph_copy.proofs.marks.forget_pairs.Given as goal

abbrev pub invariant-loop-next : goal.invariant-loop-next
invariant-loop-next g l =
    (pairs : List (ℕ × ℕ)) → IsChain (g.H.ObjectStore.content l.fn.store) l.from l.to pairs → l.fn.first ≡ first_source pairs
    → ForgotPairs (g.H.ObjectStore.content l.fn.store) (g.H.ObjectStore.content l.store) l.from l.to l.next pairs

abbrev pub decreases-loop-next : goal.decreases-loop-next
decreases-loop-next g l = turns_left (g.H.ObjectStore.content l.store) l.from l.to l.next
