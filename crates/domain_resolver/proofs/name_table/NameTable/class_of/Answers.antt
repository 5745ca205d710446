-- The entries say what the table says.
use Rattle.domain_resolver.proofs.EntryOfAName.{meaning}
use Rattle.domain_resolver.proofs.name_table.NameTable.class_of.Goals as goal

pub returns : goal.returns
returns c =
    rw (← c.self.view_is)
    (meaning c.self.inside.entries.items c.args.name.now c.class_from.result c.self.invariant.names_differ
    (rw c.as_slice.ensures.value at c.class_from.ensures))
