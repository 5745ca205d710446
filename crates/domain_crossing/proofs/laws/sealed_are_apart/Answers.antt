-- By the lemma on it.
use Rattle.domain_crossing.proofs.PartsEntered.{sealed_apart}
use Rattle.domain_crossing.proofs.laws.sealed_are_apart.Goals as goal

pub returns : goal.returns
returns c = sealed_apart
