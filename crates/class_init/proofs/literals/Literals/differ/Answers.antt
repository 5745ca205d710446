-- The places of the texts differ.
use Rattle.class_init.proofs.LiteralsByPlace.{literals_differ, text_known}
use Rattle.indexmap.specs.IndexMap.{spare}
use Rattle.class_init.proofs.literals.Literals.differ.Goals as goal

pub returns-clause-texts : goal.returns-clause-texts
returns-clause-texts c = rw (← c.self.view_is) c.self.invariant.texts_differ

pub returns-clause-literals : goal.returns-clause-literals
returns-clause-literals c =
    rw (← c.self.view_is)
    (literals_differ c.self.inside.texts c.self.inside.names.entries (spare c.self.inside.names) c.self.inside.marks.items c.self.invariant)

pub returns-clause-known : goal.returns-clause-known
returns-clause-known c =
    rw (← c.self.view_is) (text_known c.self.inside.texts c.self.inside.names.entries (spare c.self.inside.names) c.self.inside.marks.items c.self.invariant)
