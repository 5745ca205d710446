-- By the lemmas on costs.
use Rattle.heap_laws.proofs.AlikeObjects.{alike_words}
use Rattle.heap_laws.proofs.ObjectsAfterChanges.{costs_together, written_words}
use Rattle.heap_laws.proofs.grown_heaps.costs_add_up.Goals as goal

pub returns-clause-together : goal.returns-clause-together
returns-clause-together c = costs_together

pub returns-clause-alike : goal.returns-clause-alike
returns-clause-alike c = alike_words

pub returns-clause-written : goal.returns-clause-written
returns-clause-written c = λ classes heap a old new differ is alike. written_words classes a new old heap differ alike is
