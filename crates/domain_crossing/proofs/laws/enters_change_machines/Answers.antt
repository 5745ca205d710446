-- By the lemma on it.
use Rattle.domain_crossing.proofs.PartsEntered.{enters_change_machines}
use Rattle.domain_crossing.proofs.laws.enters_change_machines.Goals as goal

pub returns : goal.returns
returns c = enters_change_machines
