-- The part at the place is the class's where it has the class's number.
use Rattle.list_lemmas.proofs.ItemsByPlace.{item_lent}
use Rattle.class_init.proofs.PartOfAClass.{part_at}
use Rattle.class_init.proofs.class_parts.ClassParts.place_in_row.Goals as goal

pub returns-in-Some-get : goal.returns-in-Some-get
returns-in-Some-get c =
    let ps = c.self.inside.parts.items in
    rw (← c.self.view_is)
    (part_at ps c.deref-2.result.now c.self.inside.numbers.keys c.args.c _ c.in-Some-get.part.now c.self.invariant c.deref-2.ensures.value
    (item_lent c.deref-2.result.now _ c.in-Some-get.part c.in-Some-get.ensures.lookup) c.if-part-c.true)
