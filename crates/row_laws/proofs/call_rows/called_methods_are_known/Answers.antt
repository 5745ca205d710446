-- By the classes of receivers, and the methods that are selected there.
use Rattle.row_laws.proofs.RowsOfCalls.{row_there, runs_known}
use Rattle.row_laws.proofs.call_rows.called_methods_are_known.Goals as goal

pub returns-clause-known : goal.returns-clause-known
returns-clause-known c = λ around x w runs code call m e. runs_known around x w runs code call m e

pub returns-clause-rows : goal.returns-clause-rows
returns-clause-rows c = λ around x w runs code of_calls. row_there around x w runs code of_calls
