-- By what the call comes to.
use Rattle.row_laws.proofs.RowsKeep.{row_keeps}
use Rattle.row_laws.proofs.call_rows.call_rows_keep.Goals as goal

pub returns : goal.returns
returns c = λ around x w new outcome runs code row. row_keeps around x w new outcome runs code row
