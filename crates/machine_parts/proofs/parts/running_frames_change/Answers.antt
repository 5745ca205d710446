-- By the lemma on it.
use Rattle.machine_parts.proofs.SegmentsChanged.{running_frames_change}
use Rattle.machine_parts.proofs.parts.running_frames_change.Goals as goal

pub returns : goal.returns
returns c = running_frames_change
