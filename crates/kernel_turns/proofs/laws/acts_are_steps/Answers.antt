-- By what the step came to.
use Rattle.kernel_turns.proofs.StepsOfActs.{acts_as}
use Rattle.kernel_turns.proofs.laws.acts_are_steps.Goals as goal

pub returns : goal.returns
returns c =
    acts_as
    (record { rows = c.heap_rows_keep.ensures; keep = c.local_steps_keep.ensures; stay = c.steps_stay_known.ensures })
