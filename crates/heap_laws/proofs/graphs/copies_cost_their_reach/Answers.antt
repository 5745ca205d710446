-- By the lemma of this name.
use Rattle.heap_laws.proofs.CopiesCostTheSame.{copies_cost_their_reach}
use Rattle.heap_laws.proofs.graphs.copies_cost_their_reach.Goals as goal

pub returns : goal.returns
returns c = copies_cost_their_reach
