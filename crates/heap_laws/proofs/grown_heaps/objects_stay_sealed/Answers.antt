-- By the lemmas on objects in grown heaps.
use Rattle.heap_laws.proofs.NewObjects.{new_sealed}
use Rattle.heap_laws.proofs.StillFits.{object_sealed, of_class, throwable}
use Rattle.heap_laws.proofs.grown_heaps.objects_stay_sealed.Goals as goal

pub returns-clause-new : goal.returns-clause-new
returns-clause-new c = new_sealed

pub returns-clause-sealed : goal.returns-clause-sealed
returns-clause-sealed c = λ around object old new g h. object_sealed old new g around object h

pub returns-clause-of_class : goal.returns-clause-of_class
returns-clause-of_class c = λ a class old new g h. of_class old new g a class h

pub returns-clause-throwables : goal.returns-clause-throwables
returns-clause-throwables c = λ classes a old new g h. throwable old new g classes a h
