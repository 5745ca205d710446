-- By the lemmas on closed classes.
use Rattle.class_growth.proofs.ClosedClassesKept.{closed-still}
use Rattle.class_growth.proofs.SystemClassesClosed.{system-closed}
use Rattle.class_growth.proofs.laws.closed_classes_stay.Goals as goal

pub returns-clause-system : goal.returns-clause-system
returns-clause-system c = λ classes system. system-closed classes system

pub returns-clause-more : goal.returns-clause-more
returns-clause-more c = λ classes more closed new. closed-still classes more closed new
