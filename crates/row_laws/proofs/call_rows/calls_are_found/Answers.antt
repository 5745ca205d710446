-- By the typing of the call, and the walk that selects a method.
use Rattle.row_laws.proofs.CallsFound.{call_found}
use Rattle.row_laws.proofs.call_rows.calls_are_found.Goals as goal

pub returns : goal.returns
returns c = λ around x w runs code of_calls. call_found around x w runs code of_calls
