use Rattle.jk_model_call_rows.proofs.OneOutcome.{call_rows_agree, no_system_call, one_call}
use Rattle.jk_model_call_rows.proofs.laws.call_rows_are_determined.Goals as goal

pub returns-clause-given : goal.returns-clause-given
returns-clause-given c = λ x s i w call other. (one_call x s i w call other).given

pub returns-clause-target : goal.returns-clause-target
returns-clause-target c = λ x s i w call other. (one_call x s i w call other).target

pub returns-clause-row : goal.returns-clause-row
returns-clause-row c = λ x s i w new other outcome another p q. call_rows_agree x s i w new other outcome another p q

pub returns-clause-no_system : goal.returns-clause-no_system
returns-clause-no_system c = λ x s i w new outcome p q. no_system_call x s i w new new outcome outcome p q
