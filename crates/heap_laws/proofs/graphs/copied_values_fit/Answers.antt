-- By the lemma of this name.
use Rattle.heap_laws.proofs.CopiesFit.{copied_values_fit}
use Rattle.heap_laws.proofs.graphs.copied_values_fit.Goals as goal

pub returns : goal.returns
returns c = copied_values_fit
