-- The owner's range alone is changed, by one creation.
use Rattle.std.proofs.Common.{arith}
use Rattle.jk_model.specs.Capabilities.{is_owned_by}
use Rattle.capability_table.proofs.OneRangePasses.{at-got, at-within}
use Rattle.capability_table.proofs.TableIsKept.{table-set, next-only, created-only, same-created}
use Rattle.capability_table.proofs.table.CapabilityTable.create.Goals as goal

pub index_mut-requires : goal.index_mut-requires
index_mut-requires c =
    let r = c.self.inside.ranges in
    omega (arith, r.ok.0, at-within (is_owned_by c.args.owner) r.items c.args.self.now c.in_ok-place.place c.self.view_is c.in_ok-place.ensures)

pub invariant_of-self : goal.invariant_of-self
invariant_of-self c =
    let t = c.self.inside in
    let got = c.index_mut.result.now in
    let only =
    at-got (is_owned_by c.args.owner) t.ranges.items c.args.self.now c.in_ok-place.place got c.self.view_is
    c.in_ok-place.ensures c.index_mut.ensures.value in
    table-set t.owners.keys t.places.items (is_owned_by c.args.owner) t.ranges.items c.in_ok-place.place got
    c.create.new.self c.self.invariant only (same-created c.args.target got c.create.new.self c.create.result c.create.ensures.range)

pub returns-clause-number : goal.returns-clause-number
returns-clause-number c =
    let xs = c.self.inside.ranges.items in
    let got = c.index_mut.result.now in
    let only = at-got (is_owned_by c.args.owner) xs c.args.self.now c.in_ok-place.place got c.self.view_is c.in_ok-place.ensures c.index_mut.ensures.value in
    rw (← c.self.view_is, next-only c.args.owner xs c.in_ok-place.place got only) c.create.ensures.number

pub returns-clause-table : goal.returns-clause-table
returns-clause-table c =
    let xs = c.self.inside.ranges.items in
    let got = c.index_mut.result.now in
    let only = at-got (is_owned_by c.args.owner) xs c.args.self.now c.in_ok-place.place got c.self.view_is c.in_ok-place.ensures c.index_mut.ensures.value in
    rw (← c.self.view_is) (created-only c.args.owner c.args.target xs c.in_ok-place.place got c.create.new.self c.create.result only c.create.ensures.range)
