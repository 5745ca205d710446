-- Names above all that the heap has are free.
use Rattle.heap_laws.proofs.FreshNames.{above_names, fitting_made, none_above}
use Rattle.heap_laws.proofs.grown_heaps.names_are_free.Goals as goal

pub returns-clause-free : goal.returns-clause-free
returns-clause-free c = λ heap. (above_names heap, none_above heap)

pub returns-clause-made : goal.returns-clause-made
returns-clause-made c = λ classes quota heap object fits. fitting_made classes quota heap object fits
