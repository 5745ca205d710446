-- By the rows of instructions on numbers.
use Rattle.row_laws.proofs.NumberRowsKept.{number_kept}
use Rattle.row_laws.proofs.running.number_rows_keep.Goals as goal

pub returns : goal.returns
returns c = λ around x w g after outcome runs code row is. number_kept around x w runs code g after outcome row is
