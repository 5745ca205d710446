-- There is no place for the slots that are skipped.
use Rattle.type_rows.proofs.RowsAreDone.{no_copy}
use Rattle.type_rows.proofs.entries.copy_places.Goals as goal

pub returns-in_err-between-clause-none : goal.returns-in_err-between-clause-none
returns-in_err-between-clause-none c =
    rw c.from_residual-in_err-between.ensures
    (no_copy c.args.stack.now c.args.skipped c.args.copied c.in_ok-top.top c.in_ok-top.ensures.some c.in_err-between.ensures.none)
