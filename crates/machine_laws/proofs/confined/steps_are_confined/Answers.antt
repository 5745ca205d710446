-- By the case of the step.
use Rattle.machine_laws.proofs.StepsConfined.{steps_confined}
use Rattle.machine_laws.proofs.confined.steps_are_confined.Goals as goal

pub returns : goal.returns
returns c = λ m new t deed lines p known step. steps_confined c.heap_rows_keep.ensures m new t deed lines p known step
