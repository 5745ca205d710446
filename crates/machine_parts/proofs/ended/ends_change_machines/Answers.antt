-- By the lemma of this name.
use Rattle.machine_parts.proofs.DomainEnded.{ends_change_machines}
use Rattle.machine_parts.proofs.ended.ends_change_machines.Goals as goal

pub returns : goal.returns
returns c = ends_change_machines
