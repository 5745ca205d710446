-- The slot of the top segment is marked, the entry names the one below, and marks go where they are too many.
use Rattle.std.proofs.Common.{◌≡◌, ◌∙◌, ◌+◌, ◌-◌, true, false, None, Some, is_some, option_map, refl, sym, arith, subst}
use Rattle.std.proofs.lemmas.Option.{same_Some}
use Rattle.jk_model_sharing.specs.Segments.{top_segment}
use Rattle.thread_stacks.specs.StackAnswers.{IsLive, number_of}
use Rattle.thread_stacks.specs.Stacks.{ThreadList, is_live, is_running}
use Rattle.thread_stacks.proofs.EndingsListed.{none_listed}
use Rattle.thread_stacks.proofs.CountedAlive.{some_live}
use Rattle.thread_stacks.proofs.PushedAndPopped.{live_entry}
use Rattle.thread_stacks.proofs.SegmentsTakenOff.{ends, entries_fewer, entries_room, entries_room_closed, goes_on, has_top, ran, slots_room, top_slotted, was_live, owned_after, taken_count}
use Rattle.thread_stacks.proofs.Owned.{newest_as_long}
use Rattle.thread_stacks.proofs.threads.Threads.pop.Goals as goal

pub unreachable-requires : goal.unreachable-requires
unreachable-requires c =
    let t = c.self.inside in
    let P : ThreadList → Type 0 = λ x. IsLive x.threads c.args.t in
    let live = subst P (sym c.self.view_is) c.requires in
    let Q : ThreadList → Type 0 = λ x. None ≡ option_map number_of (top_segment x.threads c.args.t) in
    has_top t.slots.items t.entries.items t.next_thread t.next_segment c.self.invariant.0 c.self.invariant.1 c.args.t live
    (subst Q (sym c.self.view_is) c.in-None.ensures)

pub take_off-slot-requires-clause-order : goal.take_off-slot-requires-clause-order
take_off-slot-requires-clause-order c = c.self.invariant.0.segments

pub take_off-slot-requires-clause-there : goal.take_off-slot-requires-clause-there
take_off-slot-requires-clause-there c =
    let t = c.self.inside in
    let P : ThreadList → Type 0 = λ x. IsLive x.threads c.args.t in
    let live = subst P (sym c.self.view_is) c.requires in
    let Q : ThreadList → Type 0 = λ x. Some c.in-Some.top ≡ option_map number_of (top_segment x.threads c.args.t) in
    top_slotted t.slots.items t.entries.items t.next_thread t.next_segment c.self.invariant.0 c.self.invariant.1 c.args.t live c.in-Some.top
    (subst Q (sym c.self.view_is) c.in-Some.ensures)

pub set_top-entry-requires-clause-order : goal.set_top-entry-requires-clause-order
set_top-entry-requires-clause-order c = c.self.invariant.0.threads

pub set_top-entry-requires-clause-entered : goal.set_top-entry-requires-clause-entered
set_top-entry-requires-clause-entered c =
    let t = c.self.inside in
    let P : ThreadList → Type 0 = λ x. IsLive x.threads c.args.t in
    let e = live_entry t.slots.items t.entries.items c.args.t c.self.invariant.0.threads (subst P (sym c.self.view_is) c.requires) in
    record { place = e.place; entry = e.entry; there = e.entry_at; number = e.number }

pub overflow_sub-self : goal.overflow_sub-self
overflow_sub-self c =
    let t = c.self.inside in
    let inv = c.self.invariant in
    let P : ThreadList → Type 0 = λ x. IsLive x.threads c.args.t in
    let live = subst P (sym c.self.view_is) c.requires in
    let Q : ThreadList → Type 0 = λ x. Some c.in-Some.top ≡ option_map number_of (top_segment x.threads c.args.t) in
    let top = subst Q (sym c.self.view_is) c.in-Some.ensures in
    let m = c.take_off-slot.ensures.taken in
    some_live is_live t.slots.items t.live_segments t.most_segments _ inv.3 m.marks.sets.place c.take_off-slot.result m.marks.sets.there
    (was_live t.slots.items t.entries.items t.next_thread t.next_segment inv.0 inv.1 c.args.t live c.in-Some.top top c.take_off-slot.new.slots.items
    c.take_off-slot.result m)

pub lower_newest-requires : goal.lower_newest-requires
lower_newest-requires c =
    let t = c.self.inside in
    let inv = c.self.invariant in
    let P : ThreadList → Type 0 = λ x. IsLive x.threads c.args.t in
    let live = subst P (sym c.self.view_is) c.requires in
    let Q : ThreadList → Type 0 = λ x. Some c.in-Some.top ≡ option_map number_of (top_segment x.threads c.args.t) in
    let top = subst Q (sym c.self.view_is) c.in-Some.ensures in
    let m = c.take_off-slot.ensures.taken in
    let was =
    was_live t.slots.items t.entries.items t.next_thread t.next_segment inv.0 inv.1 c.args.t live c.in-Some.top top c.take_off-slot.new.slots.items
    c.take_off-slot.result m in
    inv.4.owners m.marks.sets.place c.take_off-slot.result m.marks.sets.there was

pub close_up_slots-requires : goal.close_up_slots-requires
close_up_slots-requires c =
    let t = c.self.inside in
    let inv = c.self.invariant in
    let P : ThreadList → Type 0 = λ x. IsLive x.threads c.args.t in
    let live = subst P (sym c.self.view_is) c.requires in
    let Q : ThreadList → Type 0 = λ x. Some c.in-Some.top ≡ option_map number_of (top_segment x.threads c.args.t) in
    let top = subst Q (sym c.self.view_is) c.in-Some.ensures in
    let m = c.take_off-slot.ensures.taken in
    let was =
    was_live t.slots.items t.entries.items t.next_thread t.next_segment inv.0 inv.1 c.args.t live c.in-Some.top top c.take_off-slot.new.slots.items
    c.take_off-slot.result m in
    let some = some_live is_live t.slots.items t.live_segments t.most_segments _ inv.3 m.marks.sets.place c.take_off-slot.result m.marks.sets.there was in
    let less : t.live_segments - 1 + 1 ≡ t.live_segments = omega (arith, some) in
    taken_count t.slots.items c.take_off-slot.new.slots.items c.in-Some.top.0 c.take_off-slot.result t.live_segments (t.live_segments - 1) t.most_segments
    _ inv.3 m was less

pub invariant_of-self : goal.invariant_of-self
invariant_of-self c =
    let t = c.self.inside in
    let inv = c.self.invariant in
    let P : ThreadList → Type 0 = λ x. IsLive x.threads c.args.t in
    let live = subst P (sym c.self.view_is) c.requires in
    let Q : ThreadList → Type 0 = λ x. Some c.in-Some.top ≡ option_map number_of (top_segment x.threads c.args.t) in
    let top = subst Q (sym c.self.view_is) c.in-Some.ensures in
    let m = c.take_off-slot.ensures.taken in
    let was =
    was_live t.slots.items t.entries.items t.next_thread t.next_segment inv.0 inv.1 c.args.t live c.in-Some.top top c.take_off-slot.new.slots.items
    c.take_off-slot.result m in
    let some = some_live is_live t.slots.items t.live_segments t.most_segments _ inv.3 m.marks.sets.place c.take_off-slot.result m.marks.sets.there was in
    let less : t.live_segments - 1 + 1 ≡ t.live_segments = omega (arith, some) in
    let on : is_some c.take_off-slot.result.below ≡ true = sym c.is_some.ensures ∙ c.if-is_some.true in
    let after =
    goes_on t.slots.items t.entries.items t.next_thread t.next_segment inv.0 inv.1 c.args.t live c.in-Some.top top c.take_off-slot.new.slots.items
    c.take_off-slot.result m c.close_up_slots.new.slots.items (t.live_segments - 1) c.close_up_slots.ensures.closed c.set_top-entry.new.entries.items
    c.set_top-entry.result c.set_top-entry.ensures.set on in
    let alive =
    ran t.slots.items t.entries.items t.next_thread t.next_segment inv.0 inv.1 c.args.t live c.in-Some.top top c.take_off-slot.new.slots.items
    c.take_off-slot.result m c.close_up_slots.new.slots.items (t.live_segments - 1) c.close_up_slots.ensures.closed c.set_top-entry.new.entries.items
    c.set_top-entry.result c.set_top-entry.ensures.set in (
      after.order,
      after.links,
      entries_room t.entries.items c.set_top-entry.new.entries.items c.args.t.0 c.take_off-slot.result.below c.set_top-entry.result t.live t.most _ inv.2
          c.set_top-entry.ensures.set alive _ on c.set_top-entry.ensures.capacity,
      slots_room t.slots.items c.take_off-slot.new.slots.items c.close_up_slots.new.slots.items c.in-Some.top.0 c.take_off-slot.result t.live_segments
          (t.live_segments - 1) t.most_segments _ _ inv.3 m was less c.close_up_slots.ensures.closed
          (c.close_up_slots.ensures.capacity ∙ c.take_off-slot.ensures.capacity),
      owned_after t.slots.items c.take_off-slot.new.slots.items c.close_up_slots.new.slots.items t.newest.items _ c.in-Some.top.0 (t.live_segments - 1)
          c.take_off-slot.result inv.0.segments inv.4 m was c.close_up_slots.ensures.closed c.lower_newest.ensures,
      none_listed _ _ _ _ _ inv.5.room,
    )

pub returns-then-is_some-clause-popped : goal.returns-then-is_some-clause-popped
returns-then-is_some-clause-popped c =
    let t = c.self.inside in
    let inv = c.self.invariant in
    let P : ThreadList → Type 0 = λ x. IsLive x.threads c.args.t in
    let live = subst P (sym c.self.view_is) c.requires in
    let Q : ThreadList → Type 0 = λ x. Some c.in-Some.top ≡ option_map number_of (top_segment x.threads c.args.t) in
    let top = subst Q (sym c.self.view_is) c.in-Some.ensures in
    let m = c.take_off-slot.ensures.taken in
    let on : is_some c.take_off-slot.result.below ≡ true = sym c.is_some.ensures ∙ c.if-is_some.true in
    let after =
    goes_on t.slots.items t.entries.items t.next_thread t.next_segment inv.0 inv.1 c.args.t live c.in-Some.top top c.take_off-slot.new.slots.items
    c.take_off-slot.result m c.close_up_slots.new.slots.items (t.live_segments - 1) c.close_up_slots.ensures.closed c.set_top-entry.new.entries.items
    c.set_top-entry.result c.set_top-entry.ensures.set on in
    let was =
    was_live t.slots.items t.entries.items t.next_thread t.next_segment inv.0 inv.1 c.args.t live c.in-Some.top top c.take_off-slot.new.slots.items
    c.take_off-slot.result m in
    let long = newest_as_long t.slots.items t.newest.items inv.4 inv.0.segments m.marks.sets.place c.take_off-slot.result m.marks.sets.there was in
    rw (← c.self.view_is, after.threads, c.lower_newest.ensures, long) refl

pub returns-then-is_some-clause-fewer : goal.returns-then-is_some-clause-fewer
returns-then-is_some-clause-fewer c =
    let t = c.self.inside in
    let inv = c.self.invariant in
    let P : ThreadList → Type 0 = λ x. IsLive x.threads c.args.t in
    let live = subst P (sym c.self.view_is) c.requires in
    let Q : ThreadList → Type 0 = λ x. Some c.in-Some.top ≡ option_map number_of (top_segment x.threads c.args.t) in
    let top = subst Q (sym c.self.view_is) c.in-Some.ensures in
    let m = c.take_off-slot.ensures.taken in
    let on : is_some c.take_off-slot.result.below ≡ true = sym c.is_some.ensures ∙ c.if-is_some.true in
    let after =
    goes_on t.slots.items t.entries.items t.next_thread t.next_segment inv.0 inv.1 c.args.t live c.in-Some.top top c.take_off-slot.new.slots.items
    c.take_off-slot.result m c.close_up_slots.new.slots.items (t.live_segments - 1) c.close_up_slots.ensures.closed c.set_top-entry.new.entries.items
    c.set_top-entry.result c.set_top-entry.ensures.set on in
    rw (← c.self.view_is) after.fewer

pub returns-then-is_some-clause-counted : goal.returns-then-is_some-clause-counted
returns-then-is_some-clause-counted c =
    let t = c.self.inside in
    let inv = c.self.invariant in
    let P : ThreadList → Type 0 = λ x. IsLive x.threads c.args.t in
    let live = subst P (sym c.self.view_is) c.requires in
    let Q : ThreadList → Type 0 = λ x. Some c.in-Some.top ≡ option_map number_of (top_segment x.threads c.args.t) in
    let top = subst Q (sym c.self.view_is) c.in-Some.ensures in
    let m = c.take_off-slot.ensures.taken in
    let on : is_some c.take_off-slot.result.below ≡ true = sym c.is_some.ensures ∙ c.if-is_some.true in
    let after =
    goes_on t.slots.items t.entries.items t.next_thread t.next_segment inv.0 inv.1 c.args.t live c.in-Some.top top c.take_off-slot.new.slots.items
    c.take_off-slot.result m c.close_up_slots.new.slots.items (t.live_segments - 1) c.close_up_slots.ensures.closed c.set_top-entry.new.entries.items
    c.set_top-entry.result c.set_top-entry.ensures.set on in
    rw (← c.self.view_is) (λ d. omega (arith, after.started d))

pub overflow_sub-self-2 : goal.overflow_sub-self-2
overflow_sub-self-2 c =
    let t = c.self.inside in
    let inv = c.self.invariant in
    let P : ThreadList → Type 0 = λ x. IsLive x.threads c.args.t in
    let live = subst P (sym c.self.view_is) c.requires in
    let Q : ThreadList → Type 0 = λ x. Some c.in-Some.top ≡ option_map number_of (top_segment x.threads c.args.t) in
    let top = subst Q (sym c.self.view_is) c.in-Some.ensures in
    let m = c.take_off-slot.ensures.taken in
    let alive =
    ran t.slots.items t.entries.items t.next_thread t.next_segment inv.0 inv.1 c.args.t live c.in-Some.top top c.take_off-slot.new.slots.items
    c.take_off-slot.result m c.close_up_slots.new.slots.items (t.live_segments - 1) c.close_up_slots.ensures.closed c.set_top-entry.new.entries.items
    c.set_top-entry.result c.set_top-entry.ensures.set in
    let s = c.set_top-entry.ensures.set in
    some_live is_running t.entries.items t.live t.most _ inv.2 s.sets.place c.set_top-entry.result s.sets.there alive

pub close_up_entries-requires : goal.close_up_entries-requires
close_up_entries-requires c =
    let t = c.self.inside in
    let inv = c.self.invariant in
    let P : ThreadList → Type 0 = λ x. IsLive x.threads c.args.t in
    let live = subst P (sym c.self.view_is) c.requires in
    let Q : ThreadList → Type 0 = λ x. Some c.in-Some.top ≡ option_map number_of (top_segment x.threads c.args.t) in
    let top = subst Q (sym c.self.view_is) c.in-Some.ensures in
    let m = c.take_off-slot.ensures.taken in
    let off : is_some c.take_off-slot.result.below ≡ false = sym c.is_some.ensures ∙ c.if-is_some.false in
    let alive =
    ran t.slots.items t.entries.items t.next_thread t.next_segment inv.0 inv.1 c.args.t live c.in-Some.top top c.take_off-slot.new.slots.items
    c.take_off-slot.result m c.close_up_slots.new.slots.items (t.live_segments - 1) c.close_up_slots.ensures.closed c.set_top-entry.new.entries.items
    c.set_top-entry.result c.set_top-entry.ensures.set in
    let s = c.set_top-entry.ensures.set in
    let some = some_live is_running t.entries.items t.live t.most _ inv.2 s.sets.place c.set_top-entry.result s.sets.there alive in
    entries_fewer t.entries.items c.set_top-entry.new.entries.items c.args.t.0 c.take_off-slot.result.below c.set_top-entry.result t.live t.most _ inv.2
    s alive (t.live - 1) off (omega (arith, some))

pub invariant_of-self-2 : goal.invariant_of-self-2
invariant_of-self-2 c =
    let t = c.self.inside in
    let inv = c.self.invariant in
    let P : ThreadList → Type 0 = λ x. IsLive x.threads c.args.t in
    let live = subst P (sym c.self.view_is) c.requires in
    let Q : ThreadList → Type 0 = λ x. Some c.in-Some.top ≡ option_map number_of (top_segment x.threads c.args.t) in
    let top = subst Q (sym c.self.view_is) c.in-Some.ensures in
    let m = c.take_off-slot.ensures.taken in
    let was =
    was_live t.slots.items t.entries.items t.next_thread t.next_segment inv.0 inv.1 c.args.t live c.in-Some.top top c.take_off-slot.new.slots.items
    c.take_off-slot.result m in
    let some = some_live is_live t.slots.items t.live_segments t.most_segments _ inv.3 m.marks.sets.place c.take_off-slot.result m.marks.sets.there was in
    let less : t.live_segments - 1 + 1 ≡ t.live_segments = omega (arith, some) in
    let off : is_some c.take_off-slot.result.below ≡ false = sym c.is_some.ensures ∙ c.if-is_some.false in
    let after =
    ends t.slots.items t.entries.items t.next_thread t.next_segment inv.0 inv.1 c.args.t live c.in-Some.top top c.take_off-slot.new.slots.items
    c.take_off-slot.result m c.close_up_slots.new.slots.items (t.live_segments - 1) c.close_up_slots.ensures.closed c.set_top-entry.new.entries.items
    c.set_top-entry.result c.set_top-entry.ensures.set off
    c.close_up_entries.new.entries.items (t.live - 1) c.close_up_entries.ensures.closed in
    let alive =
    ran t.slots.items t.entries.items t.next_thread t.next_segment inv.0 inv.1 c.args.t live c.in-Some.top top c.take_off-slot.new.slots.items
    c.take_off-slot.result m c.close_up_slots.new.slots.items (t.live_segments - 1) c.close_up_slots.ensures.closed c.set_top-entry.new.entries.items
    c.set_top-entry.result c.set_top-entry.ensures.set in
    let s = c.set_top-entry.ensures.set in
    let some_run = some_live is_running t.entries.items t.live t.most _ inv.2 s.sets.place c.set_top-entry.result s.sets.there alive in
    let fewer_run : t.live - 1 + 1 ≡ t.live = omega (arith, some_run) in (
      after.order,
      after.links,
      entries_room_closed t.entries.items c.set_top-entry.new.entries.items c.args.t.0 c.take_off-slot.result.below c.set_top-entry.result t.live t.most
          _ inv.2 s alive c.close_up_entries.new.entries.items (t.live - 1) _ off fewer_run c.close_up_entries.ensures.closed
          (c.close_up_entries.ensures.capacity ∙ c.set_top-entry.ensures.capacity),
      slots_room t.slots.items c.take_off-slot.new.slots.items c.close_up_slots.new.slots.items c.in-Some.top.0 c.take_off-slot.result t.live_segments
          (t.live_segments - 1) t.most_segments _ _ inv.3 m was less c.close_up_slots.ensures.closed
          (c.close_up_slots.ensures.capacity ∙ c.take_off-slot.ensures.capacity),
      owned_after t.slots.items c.take_off-slot.new.slots.items c.close_up_slots.new.slots.items t.newest.items _ c.in-Some.top.0 (t.live_segments - 1)
          c.take_off-slot.result inv.0.segments inv.4 m was c.close_up_slots.ensures.closed c.lower_newest.ensures,
      none_listed _ _ _ _ _ inv.5.room,
    )

pub returns-clause-popped : goal.returns-clause-popped
returns-clause-popped c =
    let t = c.self.inside in
    let inv = c.self.invariant in
    let P : ThreadList → Type 0 = λ x. IsLive x.threads c.args.t in
    let live = subst P (sym c.self.view_is) c.requires in
    let Q : ThreadList → Type 0 = λ x. Some c.in-Some.top ≡ option_map number_of (top_segment x.threads c.args.t) in
    let top = subst Q (sym c.self.view_is) c.in-Some.ensures in
    let m = c.take_off-slot.ensures.taken in
    let off : is_some c.take_off-slot.result.below ≡ false = sym c.is_some.ensures ∙ c.if-is_some.false in
    let after =
    ends t.slots.items t.entries.items t.next_thread t.next_segment inv.0 inv.1 c.args.t live c.in-Some.top top c.take_off-slot.new.slots.items
    c.take_off-slot.result m c.close_up_slots.new.slots.items (t.live_segments - 1) c.close_up_slots.ensures.closed c.set_top-entry.new.entries.items
    c.set_top-entry.result c.set_top-entry.ensures.set off
    c.close_up_entries.new.entries.items (t.live - 1) c.close_up_entries.ensures.closed in
    let was =
    was_live t.slots.items t.entries.items t.next_thread t.next_segment inv.0 inv.1 c.args.t live c.in-Some.top top c.take_off-slot.new.slots.items
    c.take_off-slot.result m in
    let long = newest_as_long t.slots.items t.newest.items inv.4 inv.0.segments m.marks.sets.place c.take_off-slot.result m.marks.sets.there was in
    rw (← c.self.view_is, after.threads, c.lower_newest.ensures, long) refl

pub returns-clause-started : goal.returns-clause-started
returns-clause-started c =
    let t = c.self.inside in
    let inv = c.self.invariant in
    let P : ThreadList → Type 0 = λ x. IsLive x.threads c.args.t in
    let live = subst P (sym c.self.view_is) c.requires in
    let Q : ThreadList → Type 0 = λ x. Some c.in-Some.top ≡ option_map number_of (top_segment x.threads c.args.t) in
    let top = subst Q (sym c.self.view_is) c.in-Some.ensures in
    let m = c.take_off-slot.ensures.taken in
    let off : is_some c.take_off-slot.result.below ≡ false = sym c.is_some.ensures ∙ c.if-is_some.false in
    let after =
    ends t.slots.items t.entries.items t.next_thread t.next_segment inv.0 inv.1 c.args.t live c.in-Some.top top c.take_off-slot.new.slots.items
    c.take_off-slot.result m c.close_up_slots.new.slots.items (t.live_segments - 1) c.close_up_slots.ensures.closed c.set_top-entry.new.entries.items
    c.set_top-entry.result c.set_top-entry.ensures.set off
    c.close_up_entries.new.entries.items (t.live - 1) c.close_up_entries.ensures.closed in
    rw (← c.self.view_is) (λ e d found same. sym (same_Some c.set_top-entry.result.domain d same) ∙ after.home e found)

pub returns-clause-fewer : goal.returns-clause-fewer
returns-clause-fewer c =
    let t = c.self.inside in
    let inv = c.self.invariant in
    let P : ThreadList → Type 0 = λ x. IsLive x.threads c.args.t in
    let live = subst P (sym c.self.view_is) c.requires in
    let Q : ThreadList → Type 0 = λ x. Some c.in-Some.top ≡ option_map number_of (top_segment x.threads c.args.t) in
    let top = subst Q (sym c.self.view_is) c.in-Some.ensures in
    let m = c.take_off-slot.ensures.taken in
    let off : is_some c.take_off-slot.result.below ≡ false = sym c.is_some.ensures ∙ c.if-is_some.false in
    let after =
    ends t.slots.items t.entries.items t.next_thread t.next_segment inv.0 inv.1 c.args.t live c.in-Some.top top c.take_off-slot.new.slots.items
    c.take_off-slot.result m c.close_up_slots.new.slots.items (t.live_segments - 1) c.close_up_slots.ensures.closed c.set_top-entry.new.entries.items
    c.set_top-entry.result c.set_top-entry.ensures.set off
    c.close_up_entries.new.entries.items (t.live - 1) c.close_up_entries.ensures.closed in
    rw (← c.self.view_is) after.fewer

pub returns-clause-counted : goal.returns-clause-counted
returns-clause-counted c =
    let t = c.self.inside in
    let inv = c.self.invariant in
    let P : ThreadList → Type 0 = λ x. IsLive x.threads c.args.t in
    let live = subst P (sym c.self.view_is) c.requires in
    let Q : ThreadList → Type 0 = λ x. Some c.in-Some.top ≡ option_map number_of (top_segment x.threads c.args.t) in
    let top = subst Q (sym c.self.view_is) c.in-Some.ensures in
    let m = c.take_off-slot.ensures.taken in
    let off : is_some c.take_off-slot.result.below ≡ false = sym c.is_some.ensures ∙ c.if-is_some.false in
    let after =
    ends t.slots.items t.entries.items t.next_thread t.next_segment inv.0 inv.1 c.args.t live c.in-Some.top top c.take_off-slot.new.slots.items
    c.take_off-slot.result m c.close_up_slots.new.slots.items (t.live_segments - 1) c.close_up_slots.ensures.closed c.set_top-entry.new.entries.items
    c.set_top-entry.result c.set_top-entry.ensures.set off
    c.close_up_entries.new.entries.items (t.live - 1) c.close_up_entries.ensures.closed in
    rw (← c.self.view_is) (λ d. omega (arith, after.started d))
