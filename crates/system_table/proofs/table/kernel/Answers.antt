-- The whole group is compared with the table, by computing both.
use Rattle.std.proofs.Common.{refl}
use Rattle.system_table.proofs.RecordsAreEntries.{group}
use Rattle.system_table.proofs.table.kernel.Goals as goal

pub returns-clause-entries : goal.returns-clause-entries
returns-clause-entries c = group _ 10 5 refl
