-- By the lemmas on a domain's own state.
use Rattle.class_growth.proofs.OwnStatesKept.{own_state-still, first_state-still, literal-before, literal-still}
use Rattle.class_growth.proofs.laws.own_states_stay.Goals as goal

pub returns-clause-states : goal.returns-clause-states
returns-clause-states c = λ classes more table own there state. own_state-still classes more table there own state

pub returns-clause-first_states : goal.returns-clause-first_states
returns-clause-first_states c = λ classes more table own there first. first_state-still classes more table there own first

pub returns-clause-literals : goal.returns-clause-literals
returns-clause-literals c = λ classes more table text there. (literal-still classes more table text, literal-before classes more table there text)
