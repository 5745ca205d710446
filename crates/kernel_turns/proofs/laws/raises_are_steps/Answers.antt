-- By what is pending.
use Rattle.kernel_turns.proofs.StepsOfRaises.{raises_as}
use Rattle.kernel_turns.proofs.laws.raises_are_steps.Goals as goal

pub returns : goal.returns
returns c = raises_as c.steps_stay_known.ensures
