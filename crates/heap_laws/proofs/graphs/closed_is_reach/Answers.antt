-- By the lemma of this name.
use Rattle.heap_laws.proofs.ReachIsClosed.{closed_is_reach}
use Rattle.heap_laws.proofs.graphs.closed_is_reach.Goals as goal

pub returns : goal.returns
returns c = closed_is_reach
