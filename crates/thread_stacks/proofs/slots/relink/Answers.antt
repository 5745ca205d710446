-- The one slot of the number is replaced, if there is one.
use Rattle.std.proofs.Common.{◌≡◌, ◌∙◌, List, None, Option, arith, find, map, subst, sym, ap, set}
use Rattle.std.proofs.lemmas.Bool.{eqb-true}
use Rattle.jk_model.specs.declared.identifiers.SegmentNo.{SegmentNo}
use Rattle.list_lemmas.proofs.ItemsByPlace.{item_read}
use Rattle.thread_stacks.specs.declared.slots.Slot.{Slot}
use Rattle.thread_stacks.specs.Places.{IsOnlyAt, has_key}
use Rattle.thread_stacks.specs.StackChanges.{if_hit, slot_linked}
use Rattle.thread_stacks.specs.Stacks.{slot_key}
use Rattle.thread_stacks.proofs.FoundInStacks.{only_passes, only_within}
use Rattle.thread_stacks.proofs.Relinked.{none_hit, none_is_map, set_is_map}
use Rattle.thread_stacks.proofs.slots.relink.Goals as goal

pub returns-in-None-clause-linked : goal.returns-in-None-clause-linked
returns-in-None-clause-linked c = none_hit c.args.at (slot_linked c.args.link c.args.to) c.args.slots.now.items c.in-None.is

pub returns-in-None-place_of_segment-clause-linked : goal.returns-in-None-place_of_segment-clause-linked
returns-in-None-place_of_segment-clause-linked c =
    let xs = c.args.slots.now.items in
    let P : List Slot → Type 0 = λ ys. find (has_key slot_key c.in-Some.s.0) ys ≡ None in
    let none = subst P c.as_slice.ensures.value c.in-None-place_of_segment.ensures in
    let Q : Option SegmentNo → Type 0 = λ o. xs ≡ map (if_hit o (slot_linked c.args.link c.args.to)) xs in
    subst Q (sym c.in-Some.is) (none_is_map (slot_linked c.args.link c.args.to) c.in-Some.s xs none)

pub index-requires : goal.index-requires
index-requires c =
    let P : List Slot → Type 0 = λ xs. IsOnlyAt (has_key slot_key c.in-Some.s.0) xs c.in-Some-place_of_segment.place in
    let only = subst P c.as_slice.ensures.value c.in-Some-place_of_segment.ensures in
    omega (arith, only_within (has_key slot_key c.in-Some.s.0) c.args.slots.now.items c.in-Some-place_of_segment.place only, c.args.slots.now.ok.0)

pub index_mut-requires : goal.index_mut-requires
index_mut-requires c =
    let P : List Slot → Type 0 = λ xs. IsOnlyAt (has_key slot_key c.in-Some.s.0) xs c.in-Some-place_of_segment.place in
    let only = subst P c.as_slice.ensures.value c.in-Some-place_of_segment.ensures in
    omega (arith, only_within (has_key slot_key c.in-Some.s.0) c.args.slots.now.items c.in-Some-place_of_segment.place only, c.args.slots.now.ok.0)

pub returns-clause-linked : goal.returns-clause-linked
returns-clause-linked c =
    let place = c.in-Some-place_of_segment.place in
    let P : List Slot → Type 0 = λ xs. IsOnlyAt (has_key slot_key c.in-Some.s.0) xs c.in-Some-place_of_segment.place in
    let xs = c.args.slots.now.items in
    let only = subst P c.as_slice.ensures.value c.in-Some-place_of_segment.ensures in
    let s = c.index.result.now in
    let at = item_read xs place s (only_within (has_key slot_key c.in-Some.s.0) xs place only) c.index.ensures in
    let number = eqb-true s.number c.in-Some.s.0 (only_passes (has_key slot_key c.in-Some.s.0) xs place s only at) in
    let Q : Option SegmentNo → Type 0 = λ o. set xs place c.with_link.result ≡ map (if_hit o (slot_linked c.args.link c.args.to)) xs in
    subst Q (sym c.in-Some.is)
    (ap (λ (y : Slot). set xs place y) c.with_link.ensures
    ∙ set_is_map (slot_linked c.args.link c.args.to) c.in-Some.s xs place s c.requires at number)
