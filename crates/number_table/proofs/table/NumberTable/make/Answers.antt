-- A new table lists nothing.
use Rattle.number_table.proofs.EntriesListed.{empty_listed}
use Rattle.number_table.proofs.table.NumberTable.make.Goals as goal
use Rattle.number_table.proofs.table.NumberTable.make.Goals.{then-room-eq0, else-room-eq0+in_ok-table}

pub returns-clause-empty : goal.returns-clause-empty
returns-clause-empty c =
    elim c.if-room-eq0.branch [
      | then-room-eq0 w ↦ rw (w.table-is) (empty_listed w.empty-table.result w.empty-table.ensures.empty)
      | else-room-eq0+in_ok-table w ↦ rw (w.table-is) (empty_listed w.in_ok-table.table w.in_ok-table.ensures.empty)
    ]
