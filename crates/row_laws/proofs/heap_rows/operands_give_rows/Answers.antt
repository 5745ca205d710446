-- By the group of the instruction.
use Rattle.row_laws.proofs.RowsFromOperands.{row_there}
use Rattle.row_laws.proofs.heap_rows.operands_give_rows.Goals as goal

pub returns : goal.returns
returns c = λ x s i w operands. row_there x w s i operands
