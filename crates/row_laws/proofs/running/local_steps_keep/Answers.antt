-- By the case of the step.
use Rattle.row_laws.proofs.StepsKept.{step_kept}
use Rattle.row_laws.proofs.running.local_steps_keep.Goals as goal

pub returns : goal.returns
returns c = λ around x t old new went acts step. step_kept c.heap_rows_keep.ensures around x t old new went acts step
