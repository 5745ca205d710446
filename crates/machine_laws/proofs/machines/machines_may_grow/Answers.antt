-- By the lemmas on what a change of a machine leaves.
use Rattle.machine_laws.proofs.StepsGrow.{kills_may_grow, starts_may_grow, steps_may_grow}
use Rattle.machine_laws.proofs.machines.machines_may_grow.Goals as goal

pub returns-clause-starts : goal.returns-clause-starts
returns-clause-starts c = λ m new start lines known may starts. starts_may_grow m start lines new known may starts

pub returns-clause-steps : goal.returns-clause-steps
returns-clause-steps c = λ m new t lines known may step. steps_may_grow c.local_steps_keep.ensures m new t step.0 lines known may step.1

pub returns-clause-kills : goal.returns-clause-kills
returns-clause-kills c = λ m new name lines known may kills. kills_may_grow m new name lines may kills
