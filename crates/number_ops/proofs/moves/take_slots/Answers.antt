-- So many slots are taken.
use Rattle.std.proofs.Common.{◌≡◌, sym, ap, subst, ◌∙◌, arith}
use Rattle.jk_model_domains.specs.NumberRows.{value_slots}
use Rattle.number_ops.specs.TopChanges.{OnTop}
use Rattle.number_ops.proofs.EntriesOnTop.{nothing_turned}
use Rattle.number_laws.proofs.SlotsOfValues.{one_slot}
use Rattle.number_ops.proofs.SlotsTaken.{popped_is}
use Rattle.number_ops.proofs.moves.take_slots.Goals as goal

pub pop-requires : goal.pop-requires
pop-requires g c =
    let one = one_slot c.requires.finds.0 (c.requires.finds.1 ∙ c.in-1.is) in
    (one.0, subst (OnTop _ _) one.1 c.requires.finds.2)

pub take_two-requires : goal.take_two-requires
take_two-requires g c =
    let two : c.args.n ≡ 2 = omega arith in
    (c.requires.finds.0, c.requires.finds.1 ∙ two, c.requires.finds.2)

pub returns-in-0-clause-slots : goal.returns-in-0-clause-slots
returns-in-0-clause-slots g c = sym c.in-0.is

pub returns-in-0-clause-taken : goal.returns-in-0-clause-taken
returns-in-0-clause-taken g c = nothing_turned _ _ c.requires.finds.2.frame c.requires.finds.2.top

pub returns-in-1-clause-slots : goal.returns-in-1-clause-slots
returns-in-1-clause-slots g c =
    let one = one_slot c.requires.finds.0 (c.requires.finds.1 ∙ c.in-1.is) in
    let same = popped_is _ _ _ _ _ (subst (OnTop _ _) one.1 c.requires.finds.2) c.pop.ensures in
    omega (arith, ap value_slots same, one.2, c.in-1.is)

pub returns-in-1-clause-taken : goal.returns-in-1-clause-taken
returns-in-1-clause-taken g c = c.pop.ensures

pub returns-in_default-clause-slots : goal.returns-in_default-clause-slots
returns-in_default-clause-slots g c =
    let two : c.args.n ≡ 2 = omega arith in
    c.take_two.ensures.slots ∙ sym two

pub returns-in_default-clause-taken : goal.returns-in_default-clause-taken
returns-in_default-clause-taken g c = c.take_two.ensures.taken
