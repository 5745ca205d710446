-- The new entry and the new slot are the last, and there was room for them.
use Rattle.std.proofs.Common.{◌<◌, ◌+◌, length, refl, sym, add-one, subst, arith, ap, ◌∙◌, List, map, None}
use Rattle.thread_stacks.specs.StackAnswers.{segments_in}
use Rattle.thread_stacks.specs.Stacks.{ThreadList, is_live, is_running}
use Rattle.thread_stacks.proofs.CountedAlive.{count_segments, count_threads, room_for_one, room_more, room_mapped}
use Rattle.std.proofs.lemmas.List.{length-map, length-set}
use Rattle.std.proofs.lemmas.Option.{slice_get_within}
use Rattle.jk_model.specs.declared.identifiers.SegmentNo.{SegmentNo}
use Rattle.thread_stacks.specs.declared.slots.Slot.{Slot}
use Rattle.thread_stacks.specs.StackChanges.{raised}
use Rattle.thread_stacks.proofs.EndingsListed.{none_listed}
use Rattle.thread_stacks.proofs.Owned.{owned_pushed}
use Rattle.thread_stacks.proofs.Relinked.{raised_live}
use Rattle.thread_stacks.proofs.PushedAndPopped.{begun_in_order, begun_linked, begun_with}
use Rattle.thread_stacks.proofs.threads.Threads.begin.Goals as goal

pub push_reserved-requires : goal.push_reserved-requires
push_reserved-requires c =
    let t = c.self.inside in
    let Q : ThreadList → Type 0 = λ x. length (segments_in x.threads) < x.most_segments in
    let room = subst Q (sym c.self.view_is) c.requires.segment_room in
    let inv = c.self.invariant in
    let few : t.live_segments < t.most_segments =
    omega (arith, inv.3.counted, count_segments t.slots.items t.entries.items t.next_thread t.next_segment inv.0, room) in
    let len = ap (λ (xs : List Slot). length xs) c.relink.ensures.linked ∙ length-map t.slots.items _ in
    omega (arith, room_for_one is_live t.slots.items t.live_segments t.most_segments _ inv.3 few, t.slots.ok.0, len, c.relink.ensures.capacity)

pub push_reserved-requires-2 : goal.push_reserved-requires-2
push_reserved-requires-2 c =
    let t = c.self.inside in
    let P : ThreadList → Type 0 = λ x. length x.threads < x.most in
    let room = subst P (sym c.self.view_is) c.requires.room in
    let inv = c.self.invariant in
    let few : t.live < t.most = omega (arith, inv.2.counted, count_threads t.slots.items t.entries.items inv.1.tops, room) in
    omega (arith, room_for_one is_running t.entries.items t.live t.most _ inv.2 few, t.entries.ok.0)

pub invariant_of-self : goal.invariant_of-self
invariant_of-self c =
    let t = c.self.inside in
    let inv = c.self.invariant in
    let P : ThreadList → Type 0 = λ x. length x.threads < x.most in
    let room = subst P (sym c.self.view_is) c.requires.room in
    let few : t.live < t.most = omega (arith, inv.2.counted, count_threads t.slots.items t.entries.items inv.1.tops, room) in
    let Q : ThreadList → Type 0 = λ x. length (segments_in x.threads) < x.most_segments in
    let segment_room = subst Q (sym c.self.view_is) c.requires.segment_room in
    let few_segments : t.live_segments < t.most_segments =
    omega (arith, inv.3.counted, count_segments t.slots.items t.entries.items t.next_thread t.next_segment inv.0, segment_room) in
    let older = c.set_newest-older.result in
    let n : SegmentNo = record { 0 = t.next_segment } in
    let low = slice_get_within t.newest.items c.args.d.0 older c.set_newest-older.ensures.was in
    rw (c.push_reserved.ensures.items, c.new_slot.ensures, c.push_reserved-2.ensures.items, c.relink.ensures.linked, c.set_newest-older.ensures.set) (
      begun_in_order t.slots.items t.entries.items t.next_thread t.next_segment inv.0 inv.1 c.args.d older,
      begun_linked t.slots.items t.entries.items t.next_thread t.next_segment inv.0 inv.1 c.args.d older,
      room_more is_running t.entries.items t.live t.most _ inv.2 _ (t.live + 1) _ refl few refl c.push_reserved-2.ensures.capacity,
      room_more is_live (map (raised n None older) t.slots.items) t.live_segments t.most_segments _
          (room_mapped is_live t.slots.items t.live_segments t.most_segments _ inv.3 (raised n None older) _ (raised_live n None older)
          c.relink.ensures.capacity) _ (t.live_segments + 1) _ refl few_segments refl c.push_reserved.ensures.capacity,
      owned_pushed t.slots.items t.newest.items inv.4 inv.0.segments t.next_segment t.next_thread c.args.d None older c.set_newest-older.ensures.was,
      none_listed _ _ _ _ _ inv.5.room,
    )

pub returns-clause-begun : goal.returns-clause-begun
returns-clause-begun c =
    let t = c.self.inside in
    let inv = c.self.invariant in
    let older = c.set_newest-older.result in
    let threads = begun_with t.slots.items t.entries.items t.next_thread t.next_segment inv.0 inv.1 c.args.d older in
    rw (
      ← c.self.view_is,
      c.push_reserved.ensures.items,
      c.new_slot.ensures,
      c.push_reserved-2.ensures.items,
      c.relink.ensures.linked,
      threads,
      c.set_newest-older.ensures.set,
      length-set t.newest.items c.args.d.0 _,
      add-one t.next_thread,
      add-one t.next_segment,
    ) refl
