-- By the lemmas on links.
use Rattle.class_growth.proofs.LinksDontMatter.{superclasses-linked, with_interfaces-linked, own_interfaces-linked, field_walk-linked, method_walk-linked, subclass-linked, implements-linked, finds_field-linked, finds_method-linked, selects-linked}
use Rattle.class_growth.proofs.laws.links_leave_ways_up.Goals as goal

pub returns-clause-superclasses : goal.returns-clause-superclasses
returns-clause-superclasses c = λ old new a links ordered. superclasses-linked old new links ordered a

pub returns-clause-with_interfaces : goal.returns-clause-with_interfaces
returns-clause-with_interfaces c = λ old new a links ordered. with_interfaces-linked old new links ordered a

pub returns-clause-own_interfaces : goal.returns-clause-own_interfaces
returns-clause-own_interfaces c = λ old new a links ordered. own_interfaces-linked old new links ordered a

pub returns-clause-field_walks : goal.returns-clause-field_walks
returns-clause-field_walks c = λ old new a links ordered. field_walk-linked old new links ordered a

pub returns-clause-method_walks : goal.returns-clause-method_walks
returns-clause-method_walks c = λ old new a links ordered. method_walk-linked old new links ordered a

pub returns-clause-subclasses : goal.returns-clause-subclasses
returns-clause-subclasses c = λ a b old new links ordered h. subclass-linked old new links ordered a b h

pub returns-clause-implements : goal.returns-clause-implements
returns-clause-implements c = λ a i old new links ordered h. implements-linked old new links ordered a i h

pub returns-clause-fields : goal.returns-clause-fields
returns-clause-fields c = λ a name kind found old new links ordered h. finds_field-linked old new links ordered a name kind found h

pub returns-clause-methods : goal.returns-clause-methods
returns-clause-methods c = λ a name kind found old new links ordered h. finds_method-linked old new links ordered a name kind found h

pub returns-clause-selected : goal.returns-clause-selected
returns-clause-selected c = λ a m selected old new links ordered h. selects-linked old new links ordered a m selected h
