-- The place that is kept for a number is the place of its range.
use Rattle.std.proofs.Common.{arith, ◌-◌, slice_get, ap, ◌∙◌}
use Rattle.capability_table.proofs.PlaceOfANumber.{number_below, number_answer}
use Rattle.capability_table.proofs.table.CapabilityTable.place_of_number.Goals as goal

pub returns-then-k-eq0 : goal.returns-then-k-eq0
returns-then-k-eq0 c =
    let t = c.self.inside in
    rw (← c.self.view_is) (number_below 1 c.args.k.0 t.ranges.items c.self.invariant.chained (omega (arith, c.if-k-eq0.true)))

pub returns : goal.returns
returns c =
    let t = c.self.inside in
    let k = c.args.k.0 in
    rw (← c.self.view_is) (number_answer k t.ranges.items t.places.items c.self.invariant.chained
    c.self.invariant.places_are (omega (arith, c.if-k-eq0.false)) c.item_at.result
    (c.item_at.ensures ∙ ap (λ ns. slice_get ns (k - 1)) c.as_slice-places.ensures.value))
