-- By the lemmas on walks.
use Rattle.decided_lookups.proofs.MembersFound.{call_selects, field_found, method_found, runner_found}
use Rattle.decided_lookups.proofs.laws.walks_find.Goals as goal

pub returns-clause-fields : goal.returns-clause-fields
returns-clause-fields g = λ classes c name kind. field_found classes c name kind

pub returns-clause-methods : goal.returns-clause-methods
returns-clause-methods g = λ classes c name kind. method_found classes c name kind

pub returns-clause-runners : goal.returns-clause-runners
returns-clause-runners g = λ classes m walk. runner_found classes m walk

pub returns-clause-selected : goal.returns-clause-selected
returns-clause-selected g = λ classes receiver m. call_selects classes receiver m
