-- By the row, and by the order of an object's fields.
use Rattle.row_laws.proofs.HeapRowsKept.{row_keeps}
use Rattle.row_laws.proofs.heap_rows.heap_rows_keep.Goals as goal

pub returns : goal.returns
returns c = λ around x w new outcome runs code row. row_keeps around x w new outcome runs code c.fields_stand_in_one_order.ensures row
