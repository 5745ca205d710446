-- By the lemma of this name.
use Rattle.heap_laws.proofs.CostsWithinHeaps.{reach_is_within_heap}
use Rattle.heap_laws.proofs.graphs.reach_is_within_heap.Goals as goal

pub returns : goal.returns
returns c = reach_is_within_heap
