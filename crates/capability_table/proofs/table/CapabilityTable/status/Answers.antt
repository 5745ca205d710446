-- What is known of the number is in its range.
use Rattle.std.proofs.Common.{arith}
use Rattle.jk_model.specs.Capabilities.{has_number}
use Rattle.capability_table.proofs.OneRangePasses.{at-got, at-within, only-passes, only-find}
use Rattle.capability_table.proofs.PlaceOfANumber.{number_from}
use Rattle.capability_table.proofs.table.CapabilityTable.status.Goals as goal

pub index-requires : goal.index-requires
index-requires c =
    let r = c.self.inside.ranges in
    omega (arith, r.ok.0, at-within (has_number c.args.k.0) r.items c.args.self.now c.in_ok-place.place c.self.view_is c.in_ok-place.ensures)

pub status-requires : goal.status-requires
status-requires c =
    let xs = c.self.inside.ranges.items in
    let got = c.index.result.now in
    let only = at-got (has_number c.args.k.0) xs c.args.self.now c.in_ok-place.place got c.self.view_is c.in_ok-place.ensures c.index.ensures in
    number_from c.args.k.0 got (only-passes (has_number c.args.k.0) xs c.in_ok-place.place got only)

pub returns : goal.returns
returns c =
    let xs = c.self.inside.ranges.items in
    let got = c.index.result.now in
    let only = at-got (has_number c.args.k.0) xs c.args.self.now c.in_ok-place.place got c.self.view_is c.in_ok-place.ensures c.index.ensures in
    rw (← c.self.view_is, only-find (has_number c.args.k.0) xs c.in_ok-place.place got only) c.status.ensures
