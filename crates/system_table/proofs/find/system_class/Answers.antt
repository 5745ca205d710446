-- A class is that of its group at its place there.
use Rattle.std.proofs.Common.{◌-◌, arith}
use Rattle.system_table.proofs.RecordsAreEntries.{entry_at}
use Rattle.system_table.proofs.find.system_class.Goals as goal

pub returns-in-0-to-9 : goal.returns-in-0-to-9
returns-in-0-to-9 c = entry_at 0 _ c.from.result c.args.n _ c.language.ensures.entries (omega arith) (omega arith)

pub returns-in-10-to-14 : goal.returns-in-10-to-14
returns-in-10-to-14 c = entry_at 10 _ (c.from.result - 10) c.args.n _ c.kernel.ensures.entries (omega arith) (omega arith)

pub returns-in-15-to-31 : goal.returns-in-15-to-31
returns-in-15-to-31 c = entry_at 15 _ (c.from.result - 15) c.args.n _ c.exceptions.ensures.entries (omega arith) (omega arith)

pub returns-in_default : goal.returns-in_default
returns-in_default c = entry_at 32 _ (c.from.result - 32) c.args.n _ c.errors.ensures.entries (omega arith) (omega arith)
