-- By the lemmas on types.
use Rattle.class_growth.proofs.TypesKept.{erased-kept, of_type-kept, value_of-kept, ref_fits-still, fits-still, each_fits-still, frame_fits-still}
use Rattle.class_growth.proofs.laws.types_stay.Goals as goal

pub returns-clause-erased : goal.returns-clause-erased
returns-clause-erased c = λ classes more t there. erased-kept classes more t there

pub returns-clause-references : goal.returns-clause-references
returns-clause-references c = λ classes more t there. of_type-kept classes more t there

pub returns-clause-values : goal.returns-clause-values
returns-clause-values c = λ classes more t there. value_of-kept classes more t there

pub returns-clause-references_fit : goal.returns-clause-references_fit
returns-clause-references_fit c = λ classes more a b h. ref_fits-still classes more a b h

pub returns-clause-fit : goal.returns-clause-fit
returns-clause-fit c = λ classes more a b h. fits-still classes more a b h

pub returns-clause-each_fits : goal.returns-clause-each_fits
returns-clause-each_fits c = λ classes more a b h. each_fits-still classes more a b h

pub returns-clause-frames_fit : goal.returns-clause-frames_fit
returns-clause-frames_fit c = λ classes more a b h. frame_fits-still classes more a b h
