-- By the lemmas on interfaces as marked classes.
use Rattle.erased_typings.proofs.InterfacesErased.{least-erased}
use Rattle.erased_typings.proofs.laws.least_typings_are_erased.Goals as goal

pub returns : goal.returns
returns c = λ classes m frames place f ordered system parents least at. least-erased classes m frames place f ordered system parents least at
