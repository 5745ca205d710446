-- By the lemma on numbers that are all among others.
use Rattle.jk_model_graphs.proofs.OneCost.{no_more}
use Rattle.heap_laws.proofs.graphs.distinct_fits.Goals as goal

pub returns : goal.returns
returns c = no_more
