-- By the lemma on it.
use Rattle.domain_crossing.proofs.PartsLeft.{leaves_change_machines}
use Rattle.domain_crossing.proofs.laws.leaves_change_machines.Goals as goal

pub returns : goal.returns
returns c = leaves_change_machines
