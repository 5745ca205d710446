-- The one slot of the number is replaced, if there is one.
use Rattle.std.proofs.Common.{◌≡◌, List, None, find, arith, refl, subst, sym}
use Rattle.std.proofs.lemmas.Bool.{eqb-true}
use Rattle.list_lemmas.proofs.ItemsByPlace.{item_read}
use Rattle.thread_stacks.specs.declared.slots.Slot.{Slot}
use Rattle.thread_stacks.specs.Places.{AreRisingBy, IsOnlyAt, has_key}
use Rattle.thread_stacks.specs.StackChanges.{flagged_at, flagged_nowhere}
use Rattle.thread_stacks.specs.Stacks.{slot_key}
use Rattle.thread_stacks.proofs.FoundInStacks.{only_passes, only_within}
use Rattle.thread_stacks.proofs.slots.set_flag_among.Goals as goal

pub place_of_segment-requires : goal.place_of_segment-requires
place_of_segment-requires c =
    let P : List Slot → Type 0 = λ xs. AreRisingBy slot_key xs in
    subst P (sym c.as_slice.ensures.value) c.requires

pub returns-in-None-clause-flagged : goal.returns-in-None-clause-flagged
returns-in-None-clause-flagged c =
    let P : List Slot → Type 0 = λ xs. find (has_key slot_key c.args.s.0) xs ≡ None in
    flagged_nowhere (subst P c.as_slice.ensures.value c.in-None.ensures) refl

pub index-requires : goal.index-requires
index-requires c =
    let P : List Slot → Type 0 = λ xs. IsOnlyAt (has_key slot_key c.args.s.0) xs c.in-Some.place in
    let only = subst P c.as_slice.ensures.value c.in-Some.ensures in
    omega (arith, only_within (has_key slot_key c.args.s.0) c.args.slots.now.items c.in-Some.place only, c.args.slots.now.ok.0)

pub index_mut-requires : goal.index_mut-requires
index_mut-requires c =
    let P : List Slot → Type 0 = λ xs. IsOnlyAt (has_key slot_key c.args.s.0) xs c.in-Some.place in
    let only = subst P c.as_slice.ensures.value c.in-Some.ensures in
    omega (arith, only_within (has_key slot_key c.args.s.0) c.args.slots.now.items c.in-Some.place only, c.args.slots.now.ok.0)

pub returns-clause-flagged : goal.returns-clause-flagged
returns-clause-flagged c =
    let P : List Slot → Type 0 = λ xs. IsOnlyAt (has_key slot_key c.args.s.0) xs c.in-Some.place in
    let xs = c.args.slots.now.items in
    let only = subst P c.as_slice.ensures.value c.in-Some.ensures in
    let s = c.index.result.now in
    let at =
    item_read xs c.in-Some.place s (only_within (has_key slot_key c.args.s.0) xs c.in-Some.place only) c.index.ensures in
    rw c.with_flag.ensures
    (flagged_at s (eqb-true s.number c.args.s.0 (only_passes (has_key slot_key c.args.s.0) xs c.in-Some.place s only at))
    (record { place = c.in-Some.place; there = at; becomes = refl }))
