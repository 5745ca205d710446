-- By the lemma of this name.
use Rattle.machine_parts.proofs.SharedChanged.{pushes_change_machines}
use Rattle.machine_parts.proofs.parts.pushes_change_machines.Goals as goal

pub returns : goal.returns
returns c = pushes_change_machines
