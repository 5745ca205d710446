-- A place is found exactly where the text is known.
use Rattle.class_init.proofs.WhatIsThere.{known_says}
use Rattle.class_init.proofs.literals.Literals.knows.Goals as goal

pub returns : goal.returns
returns c = rw (← c.self.view_is, c.is_some.ensures) (known_says c.self.inside.texts c.args.units.now c.place_of.result c.place_of.ensures)
