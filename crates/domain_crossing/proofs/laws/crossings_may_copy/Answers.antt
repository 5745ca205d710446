-- By the lemmas on it.
use Rattle.domain_crossing.proofs.CopiesMayBeMade.{crossing_may_copy}
use Rattle.domain_crossing.proofs.laws.crossings_may_copy.Goals as goal

pub returns : goal.returns
returns c = λ p d e giver taker values may known. crossing_may_copy p may d e giver taker values known
