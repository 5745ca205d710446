-- By the lemma of this name.
use Rattle.machine_parts.proofs.SharedChanged.{flags_change_machines}
use Rattle.machine_parts.proofs.parts.flags_change_machines.Goals as goal

pub returns : goal.returns
returns c = flags_change_machines
