-- By the class that the top frame needs, and then by its need and by its instruction.
use Rattle.row_laws.proofs.StepsThere.{step_there}
use Rattle.row_laws.proofs.running.local_steps_are_there.Goals as goal

pub returns : goal.returns
returns c = λ around x t run acts. step_there c.heap_rows_keep.ensures around x t run acts
