-- The table with the new range keeps its owners and its places.
use Rattle.std.proofs.Common.{◌≡◌, ◌+◌, ◌≤◌, length, None, rules}
use Rattle.jk_model.specs.Capabilities.{last_number, numbers, range_of}
use Rattle.capability_table.proofs.TableIsKept.{table-admitted}
use Rattle.capability_table.proofs.table.CapabilityTable.admit.Goals as goal

pub invariant_of-self-2 : goal.invariant_of-self-2
invariant_of-self-2 c =
    let t = c.self.inside in
    let none : range_of t.ranges.items c.args.owner ≡ None = rw (c.self.view_is) c.requires in
    let place : c.next_place-place.result ≡ length t.ranges.items = rw (c.self.view_is) c.next_place-place.ensures.place in
    let many : c.used-used.result ≡ numbers t.ranges.items = rw (c.self.view_is) c.used-used.ensures.numbers in
    let few : c.used-used.result + c.args.count ≤ last_number = search rules in
    rw (
      c.push_reserved.ensures.items,
      c.in_ok-reserve.ensures.ranges,
      c.in_ok-add_owner.ensures.ok,
      c.fill.ensures,
      c.in_ok-reserve.ensures.places,
    )
    (table-admitted t.owners.keys t.places.items t.ranges.items c.args.owner c.in_ok-range.range c.used-used.result
    c.args.count c.next_place-place.result c.self.invariant c.next_place-place.ensures.owner none place many few c.in_ok-range.ensures)
