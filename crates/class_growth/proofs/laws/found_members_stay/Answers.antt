-- By the lemmas on more classes.
use Rattle.class_growth.proofs.MoreClasses.{finds_field-still, finds_field-before, finds_method-still, finds_method-before, selects-still, selects-before}
use Rattle.class_growth.proofs.laws.found_members_stay.Goals as goal

pub returns-clause-fields : goal.returns-clause-fields
returns-clause-fields c = λ name kind found classes more a ordered there.
    (finds_field-still classes more ordered a there name kind found, finds_field-before classes more ordered a there name kind found)

pub returns-clause-methods : goal.returns-clause-methods
returns-clause-methods c = λ name kind found classes more a ordered there.
    (finds_method-still classes more ordered a there name kind found, finds_method-before classes more ordered a there name kind found)

pub returns-clause-selected : goal.returns-clause-selected
returns-clause-selected c = λ classes more a m selected ordered there low.
    (selects-still classes more ordered a there m low selected, selects-before classes more ordered a there m low selected)
