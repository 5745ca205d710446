-- By the typing of the instruction.
use Rattle.row_laws.proofs.OpcodesOfHeaps.{row_listed}
use Rattle.row_laws.proofs.OperandsFound.{operands_found}
use Rattle.row_laws.proofs.RowsFromOperands.{row_there}
use Rattle.row_laws.proofs.heap_rows.heap_rows_are_there.Goals as goal

pub returns-clause-operands : goal.returns-clause-operands
returns-clause-operands c = λ around x w runs code of_heaps. operands_found around x w runs code of_heaps

pub returns-clause-rows : goal.returns-clause-rows
returns-clause-rows c = λ around x w runs code of_heaps. row_there x w code.scope code.instr (operands_found around x w runs code of_heaps)

pub returns-clause-no_others : goal.returns-clause-no_others
returns-clause-no_others c = λ around x w new outcome code row. row_listed x code.scope code.instr w new outcome row
