-- By the lemmas on what records say.
use Rattle.decided_lookups.proofs.DecidedRecords.{access_decided, class_access_decided, field_decided, implements_decided, interface_decided, method_decided, overriding_decided, package_decided, runs_decided, subclass_decided}
use Rattle.decided_lookups.proofs.laws.records_are_decided.Goals as goal

pub returns-clause-interfaces : goal.returns-clause-interfaces
returns-clause-interfaces g = λ classes c. interface_decided classes c

pub returns-clause-subclasses : goal.returns-clause-subclasses
returns-clause-subclasses g = λ classes a b. subclass_decided classes a b

pub returns-clause-implementing : goal.returns-clause-implementing
returns-clause-implementing g = λ classes a i. implements_decided classes a i

pub returns-clause-packages : goal.returns-clause-packages
returns-clause-packages g = λ classes a b. package_decided classes a b

pub returns-clause-fields : goal.returns-clause-fields
returns-clause-fields g = λ classes name kind m. field_decided classes name kind m

pub returns-clause-methods : goal.returns-clause-methods
returns-clause-methods g = λ classes name kind m. method_decided classes name kind m

pub returns-clause-access : goal.returns-clause-access
returns-clause-access g = λ classes from member. access_decided classes from member

pub returns-clause-class_access : goal.returns-clause-class_access
returns-clause-class_access g = λ classes from c. class_access_decided classes from c

pub returns-clause-overriding : goal.returns-clause-overriding
returns-clause-overriding g = λ classes m flags d. overriding_decided classes m flags d

pub returns-clause-running : goal.returns-clause-running
returns-clause-running g = λ classes m other. runs_decided classes m other
