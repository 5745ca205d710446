-- By the lemmas on new classes as marked classes.
use Rattle.erased_typings.proofs.LeastKept.{least-by_first, least-stays}
use Rattle.erased_typings.proofs.laws.least_typings_stay.Goals as goal

pub returns-clause-more : goal.returns-clause-more
returns-clause-more c = λ classes more m frames ordered closed many least. least-stays classes more m frames ordered closed many least

pub returns-clause-first : goal.returns-clause-first
returns-clause-first c = λ classes stood m frames ordered system enough least. least-by_first classes stood m frames ordered system enough least
