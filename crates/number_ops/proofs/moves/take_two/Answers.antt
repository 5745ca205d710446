-- Two slots are a long, or two entries of one slot.
use Rattle.std.proofs.Common.{◌≡◌, ap, arith}
use Rattle.jk_model_domains.specs.NumberRows.{value_slots}
use Rattle.number_ops.proofs.EntriesOnTop.{two_popped}
use Rattle.number_ops.proofs.SlotsTaken.{popped_is, second_on_top, top_of_two}
use Rattle.number_ops.proofs.moves.take_two.Goals as goal

pub pop-top-requires : goal.pop-top-requires
pop-top-requires g c = top_of_two _ _ _ c.requires.2 c.requires.1

pub pop-requires : goal.pop-requires
pop-requires g c =
    let next = second_on_top _ _ _ _ _ c.requires.2 c.requires.1 c.pop-top.ensures c.in_default.not-Long in
    (next.value, next.on)

pub returns-in-Long-clause-slots : goal.returns-in-Long-clause-slots
returns-in-Long-clause-slots g c = omega (arith, ap value_slots c.in-Long.is)

pub returns-in-Long-clause-taken : goal.returns-in-Long-clause-taken
returns-in-Long-clause-taken g c = c.pop-top.ensures

pub returns-in_default : goal.returns-in_default
returns-in_default g c =
    let next = second_on_top _ _ _ _ _ c.requires.2 c.requires.1 c.pop-top.ensures c.in_default.not-Long in
    let same : next.value ≡ c.pop.result = popped_is _ _ _ _ _ next.on c.pop.ensures in
    record {
      slots = omega (arith, ap value_slots same, next.one, next.top_one);
      taken = two_popped _ _ _ _ _ _ c.pop-top.ensures c.pop.ensures;
    }
