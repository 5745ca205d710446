-- By the lemma of this name.
use Rattle.machine_parts.proofs.SharedChanged.{starts_change_machines}
use Rattle.machine_parts.proofs.parts.starts_change_machines.Goals as goal

pub returns : goal.returns
returns c = starts_change_machines
