-- The part that was found is the class's.
use Rattle.std.proofs.Common.{◌≡◌, Some, map}
use Rattle.class_init.specs.Parts.{class_part, part_in, IsPartAt}
use Rattle.class_init.proofs.PartChanged.{found_part}
use Rattle.class_init.proofs.class_parts.ClassParts.value.Goals as goal

pub returns : goal.returns
returns c =
    let ps = c.self.inside.parts.items in
    let p = c.index-part.result.now in
    let at : IsPartAt (map class_part ps) c.args.m.class c.in_ok-place.place = rw (← c.self.view_is) at c.in_ok-place.ensures in
    let found : part_in (map class_part ps) c.args.m.class ≡ Some (class_part p) = found_part ps c.args.m.class c.in_ok-place.place p at c.index-part.ensures in
    rw (← c.self.view_is, found) c.value.ensures
