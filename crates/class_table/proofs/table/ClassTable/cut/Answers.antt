-- The first entries stay right.
use Rattle.std.proofs.Common.{take, ap, ◌∙◌}
use Rattle.class_table.specs.Entries.{records}
use Rattle.class_table.proofs.TableIsKept.{table-take, records-take}
use Rattle.class_table.proofs.table.ClassTable.cut.Goals as goal

pub invariant_of-self : goal.invariant_of-self
invariant_of-self c = rw (c.truncate.ensures.items) (table-take c.self.inside.entries.items c.args.first.0 c.self.invariant)

pub returns : goal.returns
returns c =
    ap records c.truncate.ensures.items
    ∙ records-take c.self.inside.entries.items c.args.first.0
    ∙ ap (take c.args.first.0) c.self.view_is
