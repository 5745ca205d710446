-- By the lemma on what values reach.
use Rattle.jk_model_graphs.proofs.OneCost.{one_cost}
use Rattle.heap_laws.proofs.graphs.one_sum.Goals as goal

pub returns : goal.returns
returns c = one_cost
