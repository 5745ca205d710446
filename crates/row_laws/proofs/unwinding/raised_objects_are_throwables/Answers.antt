-- By the way in which it is raised.
use Rattle.row_laws.proofs.Raised.{raised_there, thrown}
use Rattle.row_laws.proofs.unwinding.raised_objects_are_throwables.Goals as goal

pub returns-clause-there : goal.returns-clause-there
returns-clause-there c = λ around x old r known sealed. raised_there around x old r sealed

pub returns-clause-throwables : goal.returns-clause-throwables
returns-clause-throwables c = λ around x old new r a known sealed may is. thrown around x known old sealed new r a may is
