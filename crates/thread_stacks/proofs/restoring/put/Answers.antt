-- The new slot is the last, and its neighbours name it.
use Rattle.std.proofs.Common.{List, Some, map, ap, refl, subst, sym, ◌∙◌}
use Rattle.thread_stacks.specs.declared.slots.Link.TheVariants.{Above, Newer}
use Rattle.thread_stacks.specs.declared.slots.Slot.{Slot}
use Rattle.thread_stacks.specs.Places.{AreRisingBy}
use Rattle.thread_stacks.specs.StackChanges.{if_hit, slot_linked}
use Rattle.thread_stacks.specs.Stacks.{slot_key}
use Rattle.thread_stacks.proofs.KeptInOrder.{rising_mapped}
use Rattle.thread_stacks.proofs.Relinked.{linked_number, raised_all}
use Rattle.thread_stacks.proofs.restoring.put.Goals as goal

pub relink-requires-2 : goal.relink-requires-2
relink-requires-2 c =
    let n = c.args.placed.now.segment.number in
    let was = c.set_top-entry.result in
    let P : List Slot → Type 0 = λ xs. AreRisingBy slot_key xs in
    subst P (sym c.relink.ensures.linked)
    (rising_mapped (if_hit was.top (slot_linked Above (Some n))) (λ x. linked_number Above (Some n) was.top x) c.args.slots.now.items
    c.requires.segments)

pub returns-clause-put : goal.returns-clause-put
returns-clause-put c =
    let n = c.args.placed.now.segment.number in
    let was = c.set_top-entry.result in
    let older = c.set_newest-older.result in
    let slots =
    c.relink-2.ensures.linked ∙ ap (λ (xs : List Slot). map (if_hit older (slot_linked Newer (Some n))) xs) c.relink.ensures.linked
    ∙ raised_all n was.top older c.args.slots.now.items in
    record {
      was = was;
      top = c.set_top-entry.ensures.set;
      older = older;
      had = c.set_newest-older.ensures.was;
      becomes = rw (c.push_reserved.ensures.items, c.placed_slot.ensures, slots) refl;
      newest_now = c.set_newest-older.ensures.set;
    }
