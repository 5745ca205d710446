-- The slot is marked, and its four neighbours are relinked.
use Rattle.std.proofs.Common.{◌∙◌, List, ap, map, refl, subst, sym}
use Rattle.thread_stacks.specs.declared.slots.Link.TheVariants.{Above, Below, Newer, Older}
use Rattle.thread_stacks.specs.declared.slots.Slot.{Slot}
use Rattle.thread_stacks.specs.Places.{AreRisingBy}
use Rattle.thread_stacks.specs.StackChanges.{if_hit, slot_linked}
use Rattle.thread_stacks.specs.Stacks.{slot_key}
use Rattle.thread_stacks.proofs.ItemsByKey.{rising_set}
use Rattle.thread_stacks.proofs.KeptInOrder.{rising_mapped}
use Rattle.thread_stacks.proofs.Relinked.{linked_number, relinked_all}
use Rattle.thread_stacks.proofs.slots.take_off.Goals as goal

pub relink-requires : goal.relink-requires
relink-requires c =
    let P : List Slot → Type 0 = λ xs. AreRisingBy slot_key xs in
    let m = c.mark-was.ensures.marked in
    subst P (sym m.sets.becomes)
    (rising_set slot_key c.args.slots.now.items m.sets.place c.mark-was.result _ c.requires.order m.sets.there refl)

pub relink-requires-2 : goal.relink-requires-2
relink-requires-2 c =
    let P : List Slot → Type 0 = λ xs. AreRisingBy slot_key xs in
    let m = c.mark-was.ensures.marked in
    let was = c.mark-was.result in
    let one = subst P (sym m.sets.becomes)
    (rising_set slot_key c.args.slots.now.items m.sets.place was _ c.requires.order m.sets.there refl) in
    subst P (sym c.relink.ensures.linked)
    (rising_mapped (if_hit was.below (slot_linked Above was.above)) (λ x. linked_number Above was.above was.below x) c.mark-was.new.slots.items one)

pub relink-requires-3 : goal.relink-requires-3
relink-requires-3 c =
    let P : List Slot → Type 0 = λ xs. AreRisingBy slot_key xs in
    let m = c.mark-was.ensures.marked in
    let was = c.mark-was.result in
    let one = subst P (sym m.sets.becomes)
    (rising_set slot_key c.args.slots.now.items m.sets.place was _ c.requires.order m.sets.there refl) in
    let two = subst P (sym c.relink.ensures.linked)
    (rising_mapped (if_hit was.below (slot_linked Above was.above)) (λ x. linked_number Above was.above was.below x) c.mark-was.new.slots.items one) in
    subst P (sym c.relink-2.ensures.linked)
    (rising_mapped (if_hit was.above (slot_linked Below was.below)) (λ x. linked_number Below was.below was.above x) c.relink.new.slots.items two)

pub relink-requires-4 : goal.relink-requires-4
relink-requires-4 c =
    let P : List Slot → Type 0 = λ xs. AreRisingBy slot_key xs in
    let m = c.mark-was.ensures.marked in
    let was = c.mark-was.result in
    let one = subst P (sym m.sets.becomes)
    (rising_set slot_key c.args.slots.now.items m.sets.place was _ c.requires.order m.sets.there refl) in
    let two = subst P (sym c.relink.ensures.linked)
    (rising_mapped (if_hit was.below (slot_linked Above was.above)) (λ x. linked_number Above was.above was.below x) c.mark-was.new.slots.items one) in
    let three = subst P (sym c.relink-2.ensures.linked)
    (rising_mapped (if_hit was.above (slot_linked Below was.below)) (λ x. linked_number Below was.below was.above x) c.relink.new.slots.items two) in
    subst P (sym c.relink-3.ensures.linked)
    (rising_mapped (if_hit was.older (slot_linked Newer was.newer)) (λ x. linked_number Newer was.newer was.older x) c.relink-2.new.slots.items three)

pub returns-clause-taken : goal.returns-clause-taken
returns-clause-taken c =
    let was = c.mark-was.result in
    let xs = c.mark-was.new.slots.items in
    record {
      marked = xs;
      marks = c.mark-was.ensures.marked;
      becomes =
          c.relink-4.ensures.linked
          ∙ ap (λ (ws : List Slot). map (if_hit was.newer (slot_linked Older was.older)) ws)
          (c.relink-3.ensures.linked
          ∙ ap (λ (ws : List Slot). map (if_hit was.older (slot_linked Newer was.newer)) ws)
          (c.relink-2.ensures.linked
          ∙ ap (λ (ws : List Slot). map (if_hit was.above (slot_linked Below was.below)) ws) c.relink.ensures.linked))
          ∙ relinked_all was xs;
    }
