-- By the lemmas on objects after changes.
use Rattle.object_store.proofs.ObjectsByName.{named_beside, named_in_place}
use Rattle.heap_laws.proofs.ObjectsAfterChanges.{made_names_differ, made_there, nothing_else, old_there, written_names_differ}
use Rattle.heap_laws.proofs.grown_heaps.objects_are_found.Goals as goal

pub returns-clause-old : goal.returns-clause-old
returns-clause-old c = λ classes quota heap made new a object makes is. old_there classes quota heap made new makes a object is

pub returns-clause-made : goal.returns-clause-made
returns-clause-made c = λ classes quota heap made new e makes has. made_there classes quota heap made new makes e has

pub returns-clause-nothing_else : goal.returns-clause-nothing_else
returns-clause-nothing_else c = λ classes quota heap made new a object makes is. nothing_else classes quota heap made new makes a object is

pub returns-clause-written : goal.returns-clause-written
returns-clause-written c = λ heap a old new is. named_in_place a new old heap is

pub returns-clause-others : goal.returns-clause-others
returns-clause-others c = λ heap a b new differ. named_beside a b new heap differ

pub returns-clause-made_differ : goal.returns-clause-made_differ
returns-clause-made_differ c = λ classes quota heap made new differ makes. made_names_differ classes quota heap made new differ makes

pub returns-clause-written_differ : goal.returns-clause-written_differ
returns-clause-written_differ c = λ heap a new differ. written_names_differ a new heap differ
