-- By the lemma of this name.
use Rattle.machine_parts.proofs.SharedChanged.{caps_change_machines}
use Rattle.machine_parts.proofs.parts.caps_change_machines.Goals as goal

pub returns : goal.returns
returns c = caps_change_machines
