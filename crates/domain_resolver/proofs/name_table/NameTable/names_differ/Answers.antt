-- The names of the entries differ.
use Rattle.domain_resolver.proofs.EntryOfAName.{names_of_table_differ}
use Rattle.domain_resolver.proofs.name_table.NameTable.names_differ.Goals as goal

pub returns : goal.returns
returns c = rw (← c.self.view_is) (names_of_table_differ c.self.inside.entries.items c.self.invariant.names_differ)
