-- By the meaning.
use Rattle.row_laws.proofs.GivenFromTypes.{given_for}
use Rattle.row_laws.proofs.KnownMethods.{has_meaning}
use Rattle.row_laws.proofs.RowsFromGiven.{call_there}
use Rattle.row_laws.proofs.system_rows.given_is_by_meaning.Goals as goal

pub returns-clause-given : goal.returns-clause-given
returns-clause-given c = λ around x quota inside m method number given known sealed is system begins.
    let h = has_meaning around.classes known.codes m method number is system in
    (h.meaning, h.means, given_for around known.codes quota inside sealed m method h.meaning h.params h.static h.of_class given begins)

pub returns-clause-row : goal.returns-clause-row
returns-clause-row c = λ x w m meaning given means h top. call_there x w m meaning given means h top
