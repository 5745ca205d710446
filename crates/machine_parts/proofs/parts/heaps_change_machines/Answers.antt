-- By the lemma on it.
use Rattle.machine_parts.proofs.DomainsChanged.{heaps_change_machines}
use Rattle.machine_parts.proofs.parts.heaps_change_machines.Goals as goal

pub returns : goal.returns
returns c = heaps_change_machines
