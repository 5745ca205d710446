-- By the lemmas on typings.
use Rattle.class_growth.proofs.TypingsKept.{start-in_scope, fits_at-in_scope, goes_well-in_scope, typing-still}
use Rattle.class_growth.proofs.laws.typings_stay.Goals as goal

pub returns-clause-starts : goal.returns-clause-starts
returns-clause-starts c = λ f classes more m s ordered closed scope h. start-in_scope classes more m s scope closed f h

pub returns-clause-fits : goal.returns-clause-fits
returns-clause-fits c = λ frames place f classes more m s ordered closed scope h. fits_at-in_scope classes more m s scope frames place f h

pub returns-clause-going_well : goal.returns-clause-going_well
returns-clause-going_well c = λ frames place i f classes more m s ordered closed scope h.
    goes_well-in_scope classes more m s scope closed ordered frames place i f h

pub returns-clause-typings : goal.returns-clause-typings
returns-clause-typings c = λ classes more m frames ordered closed typing. typing-still classes more ordered closed m frames typing
