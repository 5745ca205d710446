-- By the lemma on it.
use Rattle.machine_laws.proofs.RequestsGranted.{ends_there}
use Rattle.machine_laws.proofs.progress.ends_are_there.Goals as goal

pub returns : goal.returns
returns c = ends_there
