-- By the lemma on it.
use Rattle.machine_parts.proofs.DomainsChanged.{own_states_change_machines}
use Rattle.machine_parts.proofs.parts.own_states_change_machines.Goals as goal

pub returns : goal.returns
returns c = own_states_change_machines
