-- By the lemmas on values.
use Rattle.class_growth.proofs.ValuesKept.{value_fits-still, each_value_fits-still, frame_holds-still, holds_declared-still}
use Rattle.class_growth.proofs.laws.values_stay.Goals as goal

pub returns-clause-values : goal.returns-clause-values
returns-clause-values c = λ s more heap v t h. value_fits-still s more heap v t h

pub returns-clause-each : goal.returns-clause-each
returns-clause-each c = λ s more heap vs ts h. each_value_fits-still s more heap vs ts h

pub returns-clause-frames : goal.returns-clause-frames
returns-clause-frames c = λ s more heap f t h. frame_holds-still s more heap f t h

pub returns-clause-declared : goal.returns-clause-declared
returns-clause-declared c = λ classes more heap v declared there h. holds_declared-still classes more heap v declared there h
