-- The names of both tell.
use Rattle.shared_interfaces.proofs.FirstClass.{path_by_names}
use Rattle.list_lemmas.proofs.ItemsByPlace.{item_lent}
use Rattle.shared_interfaces.proofs.earliest.comes_before.Goals as goal

pub returns : goal.returns
returns c =
    path_by_names c.args.classes.now c.args.a c.args.b c.in-Some.of_a.now c.in-Some-class.of_b.now
    (item_lent c.args.classes.now c.args.a.0 c.in-Some.of_a c.in-Some.ensures)
    (item_lent c.args.classes.now c.args.b.0 c.in-Some-class.of_b c.in-Some-class.ensures)
    c.is_path_before.result (rw (c.as_slice.ensures, c.as_slice-2.ensures) at c.is_path_before.ensures)
