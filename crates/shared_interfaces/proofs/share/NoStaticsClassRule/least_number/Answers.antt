-- A class that is shared breaks C25 where it has a static field.
use Rattle.shared_interfaces.proofs.StaticFields.{breaks_by_field}
use Rattle.shared_interfaces.proofs.share.NoStaticsClassRule.least_number.Goals as goal

pub returns : goal.returns
returns c =
    let s = c.args.self.now in
    breaks_by_field s.classes.now s.first s.offers.now c.args.c c.args.class.now c.requires.known c.requires.folder
    (c.has_class.ensures.0 c.if-not-has_class.false) c.first_static.result (rw c.as_slice.ensures at c.first_static.ensures)
