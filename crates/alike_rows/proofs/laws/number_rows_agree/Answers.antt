-- Kind by kind.
use Rattle.alike_rows.proofs.RowsAgree.{rows_agree}
use Rattle.alike_rows.proofs.laws.number_rows_agree.Goals as goal

pub returns : goal.returns
returns c = rows_agree
