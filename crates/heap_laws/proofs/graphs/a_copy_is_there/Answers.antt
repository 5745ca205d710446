-- By the lemma of this name.
use Rattle.heap_laws.proofs.CopiesAreThere.{a_copy_is_there}
use Rattle.heap_laws.proofs.graphs.a_copy_is_there.Goals as goal

pub returns : goal.returns
returns c = a_copy_is_there
