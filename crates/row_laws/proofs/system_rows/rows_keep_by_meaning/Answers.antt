-- By the meaning, and then by the answer.
use Rattle.row_laws.proofs.CallsKept.{call_kept}
use Rattle.row_laws.proofs.system_rows.rows_keep_by_meaning.Goals as goal

pub returns : goal.returns
returns c = λ around x w new outcome m given runs code at does.
    call_kept around x w runs code at.call at.found at.named at.names given at.as_many at.on_top m at.method at.number at.is_method at.of_system
    at.result at.begins new outcome does
