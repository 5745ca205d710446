-- By the lemmas on links.
use Rattle.class_growth.proofs.LinksDontMatter.{links-set, ordered-linked, is_interface-linked, field-linked, method-linked, flags-linked, package-linked}
use Rattle.class_growth.proofs.laws.links_leave_members.Goals as goal

pub returns-clause-one_class : goal.returns-clause-one_class
returns-clause-one_class c = λ old new a links gets. links-set old new a links gets

pub returns-clause-ordered : goal.returns-clause-ordered
returns-clause-ordered c = λ old new links ordered. ordered-linked old new links ordered

pub returns-clause-interfaces : goal.returns-clause-interfaces
returns-clause-interfaces c = λ a old new links h. is_interface-linked old new links a h

pub returns-clause-fields : goal.returns-clause-fields
returns-clause-fields c = λ m field old new links h. field-linked old new links m field h

pub returns-clause-methods : goal.returns-clause-methods
returns-clause-methods c = λ m method old new links h. method-linked old new links m method h

pub returns-clause-flags : goal.returns-clause-flags
returns-clause-flags c = λ member flags old new links h. flags-linked old new links member flags h

pub returns-clause-packages : goal.returns-clause-packages
returns-clause-packages c = λ a b old new links h. package-linked old new links a b h
