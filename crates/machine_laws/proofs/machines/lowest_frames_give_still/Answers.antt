-- By the case of the step.
use Rattle.machine_laws.proofs.LowestFramesStay.{step_gives}
use Rattle.machine_laws.proofs.machines.lowest_frames_give_still.Goals as goal

pub returns : goal.returns
returns c = λ around x t old new went acts step some. step_gives c.heap_rows_keep.ensures around x t old new went acts step some
