-- By what the texts cost, and by what is sealed of them.
use Rattle.row_laws.proofs.ConstantsKept.{constants_keep, set_or_lack}
use Rattle.row_laws.proofs.running.constants_are_set.Goals as goal

pub returns-clause-there : goal.returns-clause-there
returns-clause-there c = λ around x class r old setting sealed is_class state. set_or_lack x class r old state

pub returns-clause-keep : goal.returns-clause-keep
returns-clause-keep c = λ around x class r old new setting sealed is_class sets. constants_keep around x class r old new setting sealed is_class sets
