-- By the lemma on it.
use Rattle.machine_laws.proofs.StepsAllFound.{step_there}
use Rattle.machine_laws.proofs.machines.steps_are_there.Goals as goal

pub returns : goal.returns
returns c = λ m t known. step_there c.heap_rows_keep.ensures c.local_steps_are_there.ensures c.local_steps_keep.ensures m t known
