use Rattle.jk_model_classes.proofs.OneFirstFault.{one_fault}
use Rattle.jk_model_classes.proofs.laws.one_first_fault.Goals as goal

pub returns-clause-one : goal.returns-clause-one
returns-clause-one c = λ class path rule other m n first second. one_fault class path rule other m n first second

pub returns-clause-none : goal.returns-clause-none
returns-clause-none c = λ class path rule n none first. none rule first.spot first.broken
