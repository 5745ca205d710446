-- By the lemmas on scopes.
use Rattle.class_growth.proofs.ScopesKept.{scope-still, scope-before}
use Rattle.class_growth.proofs.laws.scopes_stay.Goals as goal

pub returns-clause-still : goal.returns-clause-still
returns-clause-still c = λ classes more m s scope. scope-still classes more m s scope

pub returns-clause-before : goal.returns-clause-before
returns-clause-before c = λ classes more m s there scope. scope-before classes more m s there scope
