-- By the kind of the type's zero.
use Rattle.jk_model_domains.specs.OwnStates.{zero_of}
use Rattle.object_store.proofs.KindsOfValues.{alike}
use Rattle.heap_laws.proofs.KindsOfTypes.{kind_of_zero}
use Rattle.heap_laws.proofs.LaidOut.{known_small}
use Rattle.heap_laws.proofs.stored_objects.values_are_of_one_kind.Goals as goal

pub returns-clause-kind : goal.returns-clause-kind
returns-clause-kind c = λ classes heap t v w h k.
    alike (zero_of t) v w (kind_of_zero classes heap t v h) (kind_of_zero classes heap t w k)

pub returns-clause-small : goal.returns-clause-small
returns-clause-small c = known_small
