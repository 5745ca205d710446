-- The one slot of the number is marked.
use Rattle.std.proofs.Common.{◌≡◌, List, None, find, arith, refl, subst, sym}
use Rattle.std.proofs.lemmas.Bool.{eq-eqb, eqb-true}
use Rattle.list_lemmas.proofs.ItemsByPlace.{item_read}
use Rattle.thread_stacks.specs.declared.slots.Slot.{Slot}
use Rattle.thread_stacks.specs.Places.{AreRisingBy, IsOnlyAt, has_key}
use Rattle.thread_stacks.specs.Stacks.{slot_key}
use Rattle.thread_stacks.proofs.FoundInStacks.{none_fits, only_passes, only_within}
use Rattle.thread_stacks.proofs.slots.mark.Goals as goal

pub place_of_segment-requires : goal.place_of_segment-requires
place_of_segment-requires c =
    let P : List Slot → Type 0 = λ es. AreRisingBy slot_key es in
    subst P (sym c.as_slice.ensures.value) c.requires.order

pub unreachable-requires : goal.unreachable-requires
unreachable-requires c =
    let P : List Slot → Type 0 = λ es. find (has_key slot_key c.args.s.0) es ≡ None in
    let none = subst P c.as_slice.ensures.value c.in-None.ensures in
    let e = c.requires.there in
    let miss = none_fits (has_key slot_key c.args.s.0) c.args.slots.now.items e.place e.slot none e.there in
    let hit = eq-eqb e.slot.number c.args.s.0 e.number in cc

pub index_mut-slot-requires : goal.index_mut-slot-requires
index_mut-slot-requires c =
    let P : List Slot → Type 0 = λ es. IsOnlyAt (has_key slot_key c.args.s.0) es c.in-Some.place in
    let only = subst P c.as_slice.ensures.value c.in-Some.ensures in
    omega (arith, only_within (has_key slot_key c.args.s.0) c.args.slots.now.items c.in-Some.place only, c.args.slots.now.ok.0)

pub returns-clause-marked : goal.returns-clause-marked
returns-clause-marked c =
    let P : List Slot → Type 0 = λ es. IsOnlyAt (has_key slot_key c.args.s.0) es c.in-Some.place in
    let es = c.args.slots.now.items in
    let only = subst P c.as_slice.ensures.value c.in-Some.ensures in
    let e = c.index_mut-slot.result.now in
    let at =
    item_read es c.in-Some.place e (only_within (has_key slot_key c.args.s.0) es c.in-Some.place only) c.index_mut-slot.ensures.value in
    record {
      number = eqb-true e.number c.args.s.0 (only_passes (has_key slot_key c.args.s.0) es c.in-Some.place e only at);
      sets = record { place = c.in-Some.place; there = at; becomes = refl };
    }
