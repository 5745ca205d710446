-- By the lemma on it.
use Rattle.machine_laws.proofs.RunningSegmentsFit.{acts_well}
use Rattle.machine_laws.proofs.machines.running_segments_act_well.Goals as goal

pub returns : goal.returns
returns c = acts_well
