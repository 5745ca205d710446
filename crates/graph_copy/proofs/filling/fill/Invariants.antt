-- Whichever chain it is that has this first source, its copies up to the next one are filled.
use Rattle.std.proofs.Common.{◌≡◌, ℕ, List}
use Rattle.graph_copy.specs.Chains.{IsChain, first_source}
use Rattle.graph_copy.specs.Kinds.{IsKnown}
use Rattle.graph_copy.proofs.ChainsFilled.{FilledSoFar}
use Rattle.graph_copy.proofs.ChainsForgotten.{turns_left}
use Rattle.graph_copy.proofs.filling.fill.Given as goal

abbrev pub invariant-loop-next : goal.invariant-loop-next
invariant-loop-next g l = record {
  filled : (pairs : List (ℕ × ℕ)) → IsChain (g.H.ObjectStore.content l.fn.store) l.from l.to pairs → l.fn.first ≡ first_source pairs
      → FilledSoFar (g.H.ObjectStore.content l.fn.store) (g.H.ObjectStore.content l.store) l.t l.from l.to l.next pairs;
  known : IsKnown l.t l.last;
}

abbrev pub decreases-loop-next : goal.decreases-loop-next
decreases-loop-next g l = turns_left (g.H.ObjectStore.content l.store) l.from l.to l.next
