-- By the lemma of this name.
use Rattle.heap_laws.proofs.SealedGraphs.{sealed_is_wholly_there}
use Rattle.heap_laws.proofs.graphs.sealed_is_wholly_there.Goals as goal

pub returns : goal.returns
returns c = sealed_is_wholly_there
