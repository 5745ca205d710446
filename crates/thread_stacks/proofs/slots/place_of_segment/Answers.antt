-- The search goes by the numbers of the segments, which rise. Where the last or the one before it has the number, no other has.
use Rattle.std.proofs.Common.{◌∙◌, ◌-◌, ap, arith, length, rules, sym}
use Rattle.std.specs.Ordering.{nat_cmp}
use Rattle.std.proofs.lemmas.Fn.{always_returns_same}
use Rattle.std.proofs.lemmas.Option.{get_or_from_slice_get}
use Rattle.list_lemmas.proofs.ItemsByPlace.{item_there}
use Rattle.thread_stacks.specs.declared.slots.Slot.{Slot}
use Rattle.thread_stacks.specs.Stacks.{slot_key}
use Rattle.thread_stacks.proofs.ItemsByKey.{only_at, says_place}
use Rattle.thread_stacks.proofs.slots.place_of_segment.Goals as goal

pub returns-then-slots-last : goal.returns-then-slots-last
returns-then-slots-last c =
    let slots = c.args.slots.now in
    let (x, at) = item_there slots (length slots - 1) (omega (arith, c.if-count-gt0.true)) in
    let here = get_or_from_slice_get slots (length slots - 1) x _ at in
    only_at slot_key slots (length slots - 1) c.args.s.0 x c.requires at (ap slot_key (sym here) ∙ c.if-slots-last.true)

pub returns-then-slots-below : goal.returns-then-slots-below
returns-then-slots-below c =
    let slots = c.args.slots.now in
    let (x, at) = item_there slots (length slots - 2) (omega (arith, c.if-count-gt1.true)) in
    let here = get_or_from_slice_get slots (length slots - 2) x _ at in
    only_at slot_key slots (length slots - 2) c.args.s.0 x c.requires at (ap slot_key (sym here) ∙ c.if-slots-below.true)

pub returns : goal.returns
returns c =
    let found =
    c.binary_search_by.ensures.position (λ (e : Slot). nat_cmp e.number c.args.s.0) (always_returns_same _ _ _ (λ a r f h. search rules)) in
    rw c.ok.ensures.value (says_place slot_key c.args.slots.now c.args.s.0 c.binary_search_by.result c.requires c.binary_search_by.ensures.bound found)
