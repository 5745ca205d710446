-- By the case of the step.
use Rattle.machine_laws.proofs.StepsAllKnown.{steps_stay_known}
use Rattle.machine_laws.proofs.machines.steps_stay_known.Goals as goal

pub returns : goal.returns
returns c = λ m new t lines known step. steps_stay_known c.heap_rows_keep.ensures m new t lines known step
