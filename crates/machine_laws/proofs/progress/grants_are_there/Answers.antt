-- By the lemma on it.
use Rattle.machine_laws.proofs.RequestsGranted.{grants_there}
use Rattle.machine_laws.proofs.progress.grants_are_there.Goals as goal

pub returns : goal.returns
returns c = grants_there
