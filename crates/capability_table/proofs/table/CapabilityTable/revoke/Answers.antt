-- The range of the number alone is changed, by one creation that is revoked.
use Rattle.std.proofs.Common.{◌-◌, arith}
use Rattle.jk_model.specs.Capabilities.{has_number, revoked_at}
use Rattle.capability_table.proofs.OneRangePasses.{at-got, at-within, only-passes, only-changed}
use Rattle.capability_table.proofs.PlaceOfANumber.{number_from}
use Rattle.capability_table.proofs.TableIsKept.{table-set, same-made}
use Rattle.capability_table.proofs.table.CapabilityTable.revoke.Goals as goal

pub index_mut-requires : goal.index_mut-requires
index_mut-requires c =
    let r = c.self.inside.ranges in
    omega (arith, r.ok.0, at-within (has_number c.args.k.0) r.items c.args.self.now c.in-Some.place c.self.view_is c.in-Some.ensures)

pub revoke-requires : goal.revoke-requires
revoke-requires c =
    let xs = c.self.inside.ranges.items in
    let got = c.index_mut.result.now in
    let only = at-got (has_number c.args.k.0) xs c.args.self.now c.in-Some.place got c.self.view_is c.in-Some.ensures c.index_mut.ensures.value in
    number_from c.args.k.0 got (only-passes (has_number c.args.k.0) xs c.in-Some.place got only)

pub invariant_of-self : goal.invariant_of-self
invariant_of-self c =
    let t = c.self.inside in
    let got = c.index_mut.result.now in
    let only = at-got (has_number c.args.k.0) t.ranges.items c.args.self.now c.in-Some.place got c.self.view_is c.in-Some.ensures c.index_mut.ensures.value in
    table-set t.owners.keys t.places.items (has_number c.args.k.0) t.ranges.items c.in-Some.place got
    c.revoke.new.self c.self.invariant only (same-made got c.revoke.new.self (revoked_at got.made (c.args.k.0 - got.first)) c.revoke.ensures)

pub returns-in-Some : goal.returns-in-Some
returns-in-Some c =
    let xs = c.self.inside.ranges.items in
    let got = c.index_mut.result.now in
    let only = at-got (has_number c.args.k.0) xs c.args.self.now c.in-Some.place got c.self.view_is c.in-Some.ensures c.index_mut.ensures.value in
    rw (← c.self.view_is, c.revoke.ensures)
    (only-changed (has_number c.args.k.0) (λ r. record r { made = revoked_at r.made (c.args.k.0 - r.first) }) xs c.in-Some.place got only)
