-- By the lemma of this name.
use Rattle.heap_laws.proofs.ReachIsListed.{reach_is_there}
use Rattle.heap_laws.proofs.graphs.reach_is_there.Goals as goal

pub returns : goal.returns
returns c = reach_is_there
