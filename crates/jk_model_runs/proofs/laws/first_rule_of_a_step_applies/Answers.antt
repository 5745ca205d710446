-- By the lemmas on a thread's one top segment.
use Rattle.jk_model_runs.proofs.FirstRules.{held_rests, others_pay, spent_rests}
use Rattle.jk_model_runs.proofs.laws.first_rule_of_a_step_applies.Goals as goal

pub returns-clause-held : goal.returns-clause-held
returns-clause-held c = held_rests

pub returns-clause-spent : goal.returns-clause-spent
returns-clause-spent c = spent_rests

pub returns-clause-pays : goal.returns-clause-pays
returns-clause-pays c = others_pay
