-- By the lemma on rows in a scope.
use Rattle.class_growth.proofs.TypingsKept.{row-in_scope}
use Rattle.class_growth.proofs.laws.rows_stay.Goals as goal

pub returns : goal.returns
returns c = λ place i before after classes more m s ordered closed scope row.
    row-in_scope classes more m s scope closed ordered place i before after row
