use Rattle.class_table.proofs.MembersAreFew.{few_members}
use Rattle.class_table.proofs.table.ClassTable.ordered.Goals as goal

-- src/table.rt
pub returns-clause-members : goal.returns-clause-members
returns-clause-members c = rw (← c.self.view_is) (few_members c.self.inside.entries.items c.self.invariant)
