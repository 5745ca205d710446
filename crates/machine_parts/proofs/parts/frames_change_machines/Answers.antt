-- By the lemma on it.
use Rattle.machine_parts.proofs.SegmentsChanged.{frames_change_machines}
use Rattle.machine_parts.proofs.parts.frames_change_machines.Goals as goal

pub returns : goal.returns
returns c = frames_change_machines
