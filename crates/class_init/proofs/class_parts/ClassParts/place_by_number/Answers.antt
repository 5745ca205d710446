-- The place of the number is that of the part.
use Rattle.class_init.proofs.PartOfAClass.{place_of_class}
use Rattle.class_init.proofs.class_parts.ClassParts.place_by_number.Goals as goal

pub returns : goal.returns
returns c =
    rw (← c.self.view_is)
    (place_of_class c.self.inside.parts.items c.self.inside.numbers.keys c.args.c c.get_index_of.result c.self.invariant
    c.get_index_of.ensures.index c.get_index_of.ensures.found)
