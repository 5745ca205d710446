-- By the lemma of this name.
use Rattle.machine_parts.proofs.DomainOpened.{opens_change_machines}
use Rattle.machine_parts.proofs.opened.opens_change_machines.Goals as goal

pub returns : goal.returns
returns c = opens_change_machines
