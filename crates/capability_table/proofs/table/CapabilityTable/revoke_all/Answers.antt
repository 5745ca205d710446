-- The owner's range alone is changed: all its creations are revoked.
use Rattle.std.proofs.Common.{map, arith}
use Rattle.jk_model.specs.Capabilities.{is_owned_by, revoked_creation}
use Rattle.capability_table.proofs.OneRangePasses.{at-got, at-within, only-changed}
use Rattle.capability_table.proofs.TableIsKept.{table-set, same-made}
use Rattle.capability_table.proofs.table.CapabilityTable.revoke_all.Goals as goal

pub index_mut-requires : goal.index_mut-requires
index_mut-requires c =
    let r = c.self.inside.ranges in
    omega (arith, r.ok.0, at-within (is_owned_by c.args.owner) r.items c.args.self.now c.in-Some.place c.self.view_is c.in-Some.ensures)

pub invariant_of-self : goal.invariant_of-self
invariant_of-self c =
    let t = c.self.inside in
    let got = c.index_mut.result.now in
    let only =
    at-got (is_owned_by c.args.owner) t.ranges.items c.args.self.now c.in-Some.place got c.self.view_is
    c.in-Some.ensures c.index_mut.ensures.value in
    table-set t.owners.keys t.places.items (is_owned_by c.args.owner) t.ranges.items c.in-Some.place got
    c.revoke_all.new.self c.self.invariant only (same-made got c.revoke_all.new.self (map revoked_creation got.made) c.revoke_all.ensures)

pub returns-in-Some : goal.returns-in-Some
returns-in-Some c =
    let xs = c.self.inside.ranges.items in
    let got = c.index_mut.result.now in
    let only = at-got (is_owned_by c.args.owner) xs c.args.self.now c.in-Some.place got c.self.view_is c.in-Some.ensures c.index_mut.ensures.value in
    rw (← c.self.view_is, c.revoke_all.ensures)
    (only-changed (is_owned_by c.args.owner) (λ r. record r { made = map revoked_creation r.made }) xs c.in-Some.place got only)
