-- By the lemmas on sealed insides.
use Rattle.heap_laws.proofs.SealedStill.{literal_sealed, made_sealed, state_sealed, static_sealed, written_sealed}
use Rattle.heap_laws.proofs.grown_heaps.insides_stay_sealed.Goals as goal

pub returns-clause-made : goal.returns-clause-made
returns-clause-made c = λ around quota inside made heap h makes new. made_sealed around quota inside made heap h makes new

pub returns-clause-written : goal.returns-clause-written
returns-clause-written c = λ around quota inside a old new h there alike fits. written_sealed around quota inside a old new h there alike fits

pub returns-clause-statics : goal.returns-clause-statics
returns-clause-statics c = λ around quota inside m field v h of fits. static_sealed around quota inside h m field v of fits

pub returns-clause-literals : goal.returns-clause-literals
returns-clause-literals c = λ around quota inside l h none there. literal_sealed around quota inside l h none there

pub returns-clause-states : goal.returns-clause-states
returns-clause-states c = λ around quota inside class state h. state_sealed around quota inside h class state
