-- By the lemmas on the running segment.
use Rattle.machine_parts.proofs.RunningChanged.{flags_alone, flags_run, frames_run, inside_stays}
use Rattle.machine_parts.proofs.running.runs_change_machines.Goals as goal

pub returns : goal.returns
returns c = record { stays = inside_stays; alone = flags_alone; frames = frames_run; flags = flags_run }
