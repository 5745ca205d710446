-- By the lemmas on more classes.
use Rattle.class_growth.proofs.MoreClasses.{subclass-still, superclasses-kept, with_interfaces-kept, own_interfaces-kept, field_walk-kept, method_walk-kept, subclass-before, implements-still, implements-before}
use Rattle.class_growth.proofs.laws.ways_up_stay.Goals as goal

pub returns-clause-above : goal.returns-clause-above
returns-clause-above c = λ classes more a b sub. subclass-still classes more a b sub

pub returns-clause-superclasses : goal.returns-clause-superclasses
returns-clause-superclasses c = λ classes more a ordered there. superclasses-kept classes more ordered a there

pub returns-clause-with_interfaces : goal.returns-clause-with_interfaces
returns-clause-with_interfaces c = λ classes more a ordered there. with_interfaces-kept classes more ordered a there

pub returns-clause-own_interfaces : goal.returns-clause-own_interfaces
returns-clause-own_interfaces c = λ classes more a ordered there. own_interfaces-kept classes more ordered a there

pub returns-clause-fields : goal.returns-clause-fields
returns-clause-fields c = λ classes more a ordered there. field_walk-kept classes more ordered a there

pub returns-clause-methods : goal.returns-clause-methods
returns-clause-methods c = λ classes more a ordered there. method_walk-kept classes more ordered a there

pub returns-clause-subclasses : goal.returns-clause-subclasses
returns-clause-subclasses c = λ d classes more a ordered there. (subclass-still classes more a d, subclass-before classes more ordered a there d)

pub returns-clause-implements : goal.returns-clause-implements
returns-clause-implements c = λ i classes more a ordered there.
    (implements-still classes more ordered a there i, implements-before classes more ordered a there i)
