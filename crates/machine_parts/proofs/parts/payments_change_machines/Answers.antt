-- By the lemma on it.
use Rattle.machine_parts.proofs.DomainsChanged.{payments_change_machines}
use Rattle.machine_parts.proofs.parts.payments_change_machines.Goals as goal

pub returns : goal.returns
returns c = payments_change_machines
