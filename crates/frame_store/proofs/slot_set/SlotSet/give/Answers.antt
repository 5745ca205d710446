-- The slot changes places with the last live one.
use Rattle.std.proofs.Common.{arith, rules, ap}
use Rattle.std.proofs.lemmas.List.{get_or_read}
use Rattle.frame_store.specs.declared.slot_set.Slot.{Slot}
use Rattle.frame_store.specs.Slots.{no_slot}
use Rattle.frame_store.proofs.SlotIsGiven.{given_keeps}
use Rattle.frame_store.proofs.slot_set.SlotSet.give.Goals as goal

pub invariant_of-self : goal.invariant_of-self
invariant_of-self c =
    let s = c.args.self.now in
    let lt = c.requires.0 in
    let place = get_or_read s.slots.items _ _ lt c.index.ensures no_slot in
    record {
      small = search rules;
      ok =
          given_keeps s.slots.items s.order.items s.live c.args.slot c.index.result.now.place c.index-other.result.now _ _ s.ok lt c.requires.1
          (ap (λ (x : Slot). x.place) place)
          (get_or_read s.order.items _ _ (omega (arith, s.ok.few, s.ok.as_many, c.requires.1)) c.index-other.ensures 0);
    }
