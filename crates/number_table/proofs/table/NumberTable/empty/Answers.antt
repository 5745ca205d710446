-- A table without entries lists nothing.
use Rattle.number_table.proofs.EntriesListed.{empty_listed}
use Rattle.number_table.proofs.table.NumberTable.empty.Goals as goal

pub returns-clause-empty : goal.returns-clause-empty
returns-clause-empty c = empty_listed c.empty-table.result c.empty-table.ensures.empty
