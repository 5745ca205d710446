-- By the lemma on two lists of the same names.
use Rattle.jk_model_graphs.proofs.OneCost.{one_cost}
use Rattle.jk_model_graphs.proofs.laws.reach_has_one_cost.Goals as goal

pub returns : goal.returns
returns c = one_cost
