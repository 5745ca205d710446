-- The place of the owner among the owners is the place of its range.
use Rattle.std.proofs.Common.{map, nat_eq}
use Rattle.std.specs.List.{IsDistinct}
use Rattle.capability_table.specs.Places.{owner_number}
use Rattle.capability_table.proofs.PlaceOfAnOwner.{owner-place}
use Rattle.capability_table.proofs.table.CapabilityTable.place_of_owner.Goals as goal

pub returns : goal.returns
returns c =
    let t = c.self.invariant in
    let apart : IsDistinct nat_eq (map owner_number c.self.inside.ranges.items) = rw (← t.owners_are) t.owners_apart in
    rw (c.get_index_of.ensures.index, t.owners_are, ← c.self.view_is) (owner-place c.args.owner c.self.inside.ranges.items apart)
