-- The new slot is the last, and there was room for it; the thread's entry names it.
use Rattle.std.proofs.Common.{◌≡◌, ◌<◌, ◌+◌, true, length, refl, sym, ◌∙◌, add-one, subst, arith, ap, List, map, Some}
use Rattle.thread_stacks.specs.StackAnswers.{IsLive, segments_in}
use Rattle.thread_stacks.specs.Stacks.{ThreadList, is_live, is_running, slot_key}
use Rattle.thread_stacks.proofs.CountedAlive.{count_segments, room_for_one, room_more, room_put, room_mapped}
use Rattle.thread_stacks.proofs.PushedAndPopped.{live_entry, live_has, pushed_in_order, pushed_linked, pushed_with}
use Rattle.thread_stacks.proofs.ThreadsAfter.{runs}
use Rattle.std.proofs.lemmas.List.{length-map, length-set}
use Rattle.jk_model.specs.declared.identifiers.SegmentNo.{SegmentNo}
use Rattle.thread_stacks.specs.declared.slots.Link.TheVariants.{Newer, Above}
use Rattle.thread_stacks.specs.declared.slots.Slot.{Slot}
use Rattle.thread_stacks.specs.StackChanges.{if_hit, raised, slot_linked}
use Rattle.thread_stacks.specs.Places.{AreRisingBy}
use Rattle.thread_stacks.proofs.EndingsListed.{none_listed}
use Rattle.thread_stacks.proofs.KeptInOrder.{rising_mapped}
use Rattle.thread_stacks.proofs.Owned.{owned_pushed}
use Rattle.thread_stacks.proofs.Relinked.{raised_all, raised_live, linked_number}
use Rattle.thread_stacks.proofs.threads.Threads.push.Goals as goal

pub set_top-entry-requires-clause-order : goal.set_top-entry-requires-clause-order
set_top-entry-requires-clause-order c = c.self.invariant.0.threads

pub set_top-entry-requires-clause-entered : goal.set_top-entry-requires-clause-entered
set_top-entry-requires-clause-entered c =
    let t = c.self.inside in
    let P : ThreadList → Type 0 = λ x. IsLive x.threads c.args.t in
    let e = live_entry t.slots.items t.entries.items c.args.t c.self.invariant.0.threads (subst P (sym c.self.view_is) c.requires.thread) in
    record { place = e.place; entry = e.entry; there = e.entry_at; number = e.number }

pub relink-requires-2 : goal.relink-requires-2
relink-requires-2 c =
    let t = c.self.inside in
    let n : SegmentNo = record { 0 = t.next_segment } in
    let was = c.set_top-entry.result in
    let P : List Slot → Type 0 = λ xs. AreRisingBy slot_key xs in
    subst P (sym c.relink.ensures.linked)
    (rising_mapped (if_hit was.top (slot_linked Above (Some n))) (λ x. linked_number Above (Some n) was.top x) t.slots.items c.self.invariant.0.segments)

pub push_reserved-requires : goal.push_reserved-requires
push_reserved-requires c =
    let t = c.self.inside in
    let Q : ThreadList → Type 0 = λ x. length (segments_in x.threads) < x.most_segments in
    let room = subst Q (sym c.self.view_is) c.requires.room in
    let inv = c.self.invariant in
    let few : t.live_segments < t.most_segments =
    omega (arith, inv.3.counted, count_segments t.slots.items t.entries.items t.next_thread t.next_segment inv.0, room) in
    let one = ap (λ (xs : List Slot). length xs) c.relink.ensures.linked ∙ length-map t.slots.items _ in
    let two = ap (λ (xs : List Slot). length xs) c.relink-2.ensures.linked ∙ length-map c.relink.new.slots.items _ in
    omega (
      arith,
      room_for_one is_live t.slots.items t.live_segments t.most_segments _ inv.3 few,
      t.slots.ok.0,
      one,
      two,
      c.relink.ensures.capacity,
      c.relink-2.ensures.capacity,
    )

pub invariant_of-self : goal.invariant_of-self
invariant_of-self c =
    let t = c.self.inside in
    let inv = c.self.invariant in
    let Q : ThreadList → Type 0 = λ x. length (segments_in x.threads) < x.most_segments in
    let room = subst Q (sym c.self.view_is) c.requires.room in
    let few : t.live_segments < t.most_segments =
    omega (arith, inv.3.counted, count_segments t.slots.items t.entries.items t.next_thread t.next_segment inv.0, room) in
    let P : ThreadList → Type 0 = λ x. IsLive x.threads c.args.t in
    let live = subst P (sym c.self.view_is) c.requires.thread in
    let was = c.set_top-entry.result in
    let e = c.set_top-entry.ensures.set in
    let has = live_has t.slots.items t.entries.items c.args.t e.sets.place was inv.0.threads live e.sets.there e.number in
    let ran : is_running was ≡ true = sym (runs t.slots.items was (inv.1.tops e.sets.place was e.sets.there)) ∙ has in
    let older = c.set_newest-older.result in
    let n : SegmentNo = record { 0 = t.next_segment } in
    let slots = c.relink-2.ensures.linked ∙ ap (λ (xs : List Slot). map (if_hit older (slot_linked Newer (Some n))) xs) c.relink.ensures.linked
    ∙ raised_all n was.top older t.slots.items in
    rw (c.push_reserved.ensures.items, c.new_slot.ensures, e.sets.becomes, slots, c.set_newest-older.ensures.set) (
      pushed_in_order t.slots.items t.entries.items t.next_thread t.next_segment inv.0 inv.1 c.args.t c.args.d older e.sets.place was e.sets.there
          e.number,
      pushed_linked t.slots.items t.entries.items t.next_thread t.next_segment inv.0 inv.1 c.args.t c.args.d older e.sets.place was e.sets.there e.number,
      room_put is_running t.entries.items t.live t.most _ inv.2 e.sets.place _ was _ e.sets.there (sym ran) c.set_top-entry.ensures.capacity,
      room_more is_live (map (raised n was.top older) t.slots.items) t.live_segments t.most_segments _
          (room_mapped is_live t.slots.items t.live_segments t.most_segments _ inv.3 (raised n was.top older) _ (raised_live n was.top older)
          (c.relink-2.ensures.capacity ∙ c.relink.ensures.capacity)) _ (t.live_segments + 1) _ refl few refl c.push_reserved.ensures.capacity,
      owned_pushed t.slots.items t.newest.items inv.4 inv.0.segments t.next_segment c.args.t.0 c.args.d was.top older c.set_newest-older.ensures.was,
      none_listed _ _ _ _ _ inv.5.room,
    )

pub returns-clause-pushed : goal.returns-clause-pushed
returns-clause-pushed c =
    let t = c.self.inside in
    let inv = c.self.invariant in
    let P : ThreadList → Type 0 = λ x. IsLive x.threads c.args.t in
    let live = subst P (sym c.self.view_is) c.requires.thread in
    let was = c.set_top-entry.result in
    let e = c.set_top-entry.ensures.set in
    let has = live_has t.slots.items t.entries.items c.args.t e.sets.place was inv.0.threads live e.sets.there e.number in
    let older = c.set_newest-older.result in
    let n : SegmentNo = record { 0 = t.next_segment } in
    let slots = c.relink-2.ensures.linked ∙ ap (λ (xs : List Slot). map (if_hit older (slot_linked Newer (Some n))) xs) c.relink.ensures.linked
    ∙ raised_all n was.top older t.slots.items in
    let threads =
    pushed_with t.slots.items t.entries.items t.next_thread t.next_segment inv.0 inv.1 c.args.t c.args.d older e.sets.place was e.sets.there e.number has in
    rw (
      ← c.self.view_is,
      c.push_reserved.ensures.items,
      c.new_slot.ensures,
      e.sets.becomes,
      slots,
      threads,
      c.set_newest-older.ensures.set,
      length-set t.newest.items c.args.d.0 _,
      add-one t.next_segment,
    ) refl
