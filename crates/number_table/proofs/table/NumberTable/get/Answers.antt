-- What the table finds is listed.
use Rattle.std.proofs.Common.{sym, ◌∙◌}
use Rattle.number_table.proofs.EntriesListed.{lookup-listed}
use Rattle.number_table.proofs.table.NumberTable.get.Goals as goal

pub returns : goal.returns
returns c = rw (← c.self.view_is) (c.get.ensures ∙ sym (lookup-listed c.self.inside.table c.args.key))
