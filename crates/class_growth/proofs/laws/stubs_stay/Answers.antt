-- By the lemmas on stubs.
use Rattle.class_growth.proofs.StubsKept.{stub-still, target-still}
use Rattle.class_growth.proofs.laws.stubs_stay.Goals as goal

pub returns-clause-stubs : goal.returns-clause-stubs
returns-clause-stubs c = λ classes more a stub ordered there is. stub-still classes more ordered a there stub is

pub returns-clause-targets : goal.returns-clause-targets
returns-clause-targets c = λ classes more a stub m target ordered there is h. target-still classes more ordered a there stub is m target h
