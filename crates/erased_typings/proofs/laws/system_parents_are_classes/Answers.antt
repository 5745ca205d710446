-- By the table.
use Rattle.erased_typings.proofs.SystemParents.{system_parents}
use Rattle.erased_typings.proofs.laws.system_parents_are_classes.Goals as goal

pub returns : goal.returns
returns g = λ classes system. system_parents classes system
