-- By what is known of the method that a call runs.
use Rattle.row_laws.proofs.CallsOfSystem.{operands_found, row_keeps, row_there}
use Rattle.row_laws.proofs.system_rows.system_rows_are_there.Goals as goal

pub returns-clause-operands : goal.returns-clause-operands
returns-clause-operands c = λ around x w runs code call. operands_found around x w runs code call

pub returns-clause-rows : goal.returns-clause-rows
returns-clause-rows c = λ around x w runs code call. row_there around x w runs code call

pub returns-clause-keep : goal.returns-clause-keep
returns-clause-keep c = λ around x w new outcome runs code call does. row_keeps around x w runs code call new outcome does
