-- By the lemmas on what steps and ends keep.
use Rattle.machine_laws.proofs.WorldsKept.{kills_keep, sound_classes_stay, steps_keep, terminates_keep}
use Rattle.machine_laws.proofs.crossings.steps_keep_worlds.Goals as goal

pub returns : goal.returns
returns c = record { steps = steps_keep; ends = terminates_keep; kills = kills_keep; sound = sound_classes_stay }
