-- The slot of the domain's newest segment is marked, and its neighbours are told.
use Rattle.std.proofs.Common.{◌≡◌, ◌∙◌, ◌+◌, ◌-◌, ◌<◌, None, Some, true, false, is_some, arith, refl, subst, sym}
use Rattle.thread_stacks.specs.StackChanges.{LeavesAll}
use Rattle.thread_stacks.specs.Stacks.{ThreadList, is_live, is_running}
use Rattle.thread_stacks.proofs.CountedAlive.{some_live}
use Rattle.thread_stacks.proofs.EndingsListed.{none_listed}
use Rattle.thread_stacks.proofs.OneFewerOfADomain.{kept_room, newest_at, newest_slotted, none_of, nothing_left, off_rises, seen_count, some_of, taken_between, taken_last, taken_on_top, told_so, was_entered, was_home, was_running, was_there}
use Rattle.thread_stacks.proofs.Owned.{newest_as_long}
use Rattle.thread_stacks.proofs.SegmentsTakenOff.{entries_fewer, entries_room, entries_room_closed}
use Rattle.thread_stacks.proofs.threads.Threads.take_out.Goals as goal

pub returns-in-None-clause-none : goal.returns-in-None-clause-none
returns-in-None-clause-none c = λ _.
    let t = c.self.inside in
    let inv = c.self.invariant in
    let at = newest_at t.newest.items c.args.d.0 c.index.result.now None
    (subst (λ (x : ThreadList). c.args.d.0 < x.domains) (sym c.self.view_is) c.requires) c.index.ensures c.in-None.is in
    (refl, subst (λ (x : ThreadList). LeavesAll x c.args.d) c.self.view_is (nothing_left t.slots.items t.entries.items t.newest.items c.args.d inv.4 at))

pub take_off-was-requires-clause-there : goal.take_off-was-requires-clause-there
take_off-was-requires-clause-there c =
    let t = c.self.inside in
    let inv = c.self.invariant in
    let at = newest_at t.newest.items c.args.d.0 c.index.result.now (Some c.in-Some.s)
    (subst (λ (x : ThreadList). c.args.d.0 < x.domains) (sym c.self.view_is) c.requires) c.index.ensures c.in-Some.is in
    newest_slotted t.slots.items t.entries.items t.newest.items t.next_thread t.next_segment inv.0 inv.1 inv.4 c.args.d c.in-Some.s at

pub lower_newest-requires : goal.lower_newest-requires
lower_newest-requires c =
    let t = c.self.inside in
    let inv = c.self.invariant in
    let at = newest_at t.newest.items c.args.d.0 c.index.result.now (Some c.in-Some.s)
    (subst (λ (x : ThreadList). c.args.d.0 < x.domains) (sym c.self.view_is) c.requires) c.index.ensures c.in-Some.is in
    was_home t.slots.items t.entries.items t.newest.items t.next_thread t.next_segment inv.0 inv.1 inv.4 c.args.d c.in-Some.s at
    c.take_off-was.new.slots.items c.take_off-was.result c.take_off-was.ensures.taken

pub warn_neighbours-requires : goal.warn_neighbours-requires
warn_neighbours-requires c =
    let t = c.self.inside in
    let inv = c.self.invariant in
    let at = newest_at t.newest.items c.args.d.0 c.index.result.now (Some c.in-Some.s)
    (subst (λ (x : ThreadList). c.args.d.0 < x.domains) (sym c.self.view_is) c.requires) c.index.ensures c.in-Some.is in
    (off_rises t.slots.items t.entries.items t.newest.items t.next_thread t.next_segment inv.0 inv.1 inv.4 c.args.d c.in-Some.s at
    c.take_off-was.new.slots.items c.take_off-was.result c.take_off-was.ensures.taken).segments

pub close_up_slots-requires : goal.close_up_slots-requires
close_up_slots-requires c =
    let t = c.self.inside in
    let inv = c.self.invariant in
    let at = newest_at t.newest.items c.args.d.0 c.index.result.now (Some c.in-Some.s)
    (subst (λ (x : ThreadList). c.args.d.0 < x.domains) (sym c.self.view_is) c.requires) c.index.ensures c.in-Some.is in
    let m = c.take_off-was.ensures.taken in
    let there = was_there t.slots.items t.entries.items t.newest.items t.next_thread t.next_segment inv.0 inv.1 inv.4 c.args.d c.in-Some.s at
    c.take_off-was.new.slots.items c.take_off-was.result c.take_off-was.ensures.taken in
    let some = some_live is_live t.slots.items t.live_segments t.most_segments _ inv.3 m.marks.sets.place c.take_off-was.result m.marks.sets.there there in
    let less : t.live_segments - 1 + 1 ≡ t.live_segments = omega (arith, some) in
    seen_count t.slots.items t.entries.items t.newest.items t.next_thread t.next_segment inv.0 inv.1 inv.4 c.args.d c.in-Some.s at
    c.take_off-was.new.slots.items c.take_off-was.result c.take_off-was.ensures.taken
    c.warn_neighbours.new.slots.items c.warn_neighbours.ensures.warned t.live_segments (t.live_segments - 1) t.most_segments _ inv.3 less

pub invariant_of-self : goal.invariant_of-self
invariant_of-self c =
    let t = c.self.inside in
    let inv = c.self.invariant in
    let at = newest_at t.newest.items c.args.d.0 c.index.result.now (Some c.in-Some.s)
    (subst (λ (x : ThreadList). c.args.d.0 < x.domains) (sym c.self.view_is) c.requires) c.index.ensures c.in-Some.is in
    let m = c.take_off-was.ensures.taken in
    let there = was_there t.slots.items t.entries.items t.newest.items t.next_thread t.next_segment inv.0 inv.1 inv.4 c.args.d c.in-Some.s at
    c.take_off-was.new.slots.items c.take_off-was.result c.take_off-was.ensures.taken in
    let some = some_live is_live t.slots.items t.live_segments t.most_segments _ inv.3 m.marks.sets.place c.take_off-was.result m.marks.sets.there there in
    let less : t.live_segments - 1 + 1 ≡ t.live_segments = omega (arith, some) in
    let up : is_some c.take_off-was.result.above ≡ true = sym c.is_some.ensures ∙ c.if-is_some.true in
    let above = some_of c.take_off-was.result.above up in
    let after =
    taken_between t.slots.items t.entries.items t.newest.items t.next_thread t.next_segment inv.0 inv.1 inv.4 c.args.d c.in-Some.s at
    c.take_off-was.new.slots.items c.take_off-was.result c.take_off-was.ensures.taken
    c.warn_neighbours.new.slots.items c.warn_neighbours.ensures.warned t.live_segments (t.live_segments - 1) t.most_segments _ inv.3 less
    c.close_up_slots.new.slots.items
    c.close_up_slots.ensures.closed _ c.lower_newest.ensures above.0 above.1 in (
      after.order,
      after.links,
      inv.2,
      kept_room t.slots.items t.entries.items t.newest.items t.next_thread t.next_segment inv.0 inv.1 inv.4 c.args.d c.in-Some.s at
          c.take_off-was.new.slots.items c.take_off-was.result c.take_off-was.ensures.taken
          c.warn_neighbours.new.slots.items c.warn_neighbours.ensures.warned t.live_segments (t.live_segments - 1) t.most_segments _ inv.3 less
          c.close_up_slots.new.slots.items
          c.close_up_slots.ensures.closed _ c.lower_newest.ensures _
          (c.close_up_slots.ensures.capacity ∙ c.warn_neighbours.ensures.capacity ∙ c.take_off-was.ensures.capacity),
      after.owned,
      none_listed _ _ _ _ _ inv.5.room,
    )

pub returns-then-is_some-clause-taken : goal.returns-then-is_some-clause-taken
returns-then-is_some-clause-taken c =
    let t = c.self.inside in
    let inv = c.self.invariant in
    let at = newest_at t.newest.items c.args.d.0 c.index.result.now (Some c.in-Some.s)
    (subst (λ (x : ThreadList). c.args.d.0 < x.domains) (sym c.self.view_is) c.requires) c.index.ensures c.in-Some.is in
    let m = c.take_off-was.ensures.taken in
    let there = was_there t.slots.items t.entries.items t.newest.items t.next_thread t.next_segment inv.0 inv.1 inv.4 c.args.d c.in-Some.s at
    c.take_off-was.new.slots.items c.take_off-was.result c.take_off-was.ensures.taken in
    let some = some_live is_live t.slots.items t.live_segments t.most_segments _ inv.3 m.marks.sets.place c.take_off-was.result m.marks.sets.there there in
    let less : t.live_segments - 1 + 1 ≡ t.live_segments = omega (arith, some) in
    let up : is_some c.take_off-was.result.above ≡ true = sym c.is_some.ensures ∙ c.if-is_some.true in
    let above = some_of c.take_off-was.result.above up in
    let after =
    taken_between t.slots.items t.entries.items t.newest.items t.next_thread t.next_segment inv.0 inv.1 inv.4 c.args.d c.in-Some.s at
    c.take_off-was.new.slots.items c.take_off-was.result c.take_off-was.ensures.taken
    c.warn_neighbours.new.slots.items c.warn_neighbours.ensures.warned t.live_segments (t.live_segments - 1) t.most_segments _ inv.3 less
    c.close_up_slots.new.slots.items
    c.close_up_slots.ensures.closed _ c.lower_newest.ensures above.0 above.1 in
    let long =
    newest_as_long t.slots.items t.newest.items inv.4 inv.0.segments c.take_off-was.ensures.taken.marks.sets.place c.take_off-was.result
    c.take_off-was.ensures.taken.marks.sets.there there in
    λ taken is.
    told_so _ _ c.args.d taken None is
    (rw (← c.self.view_is) (record {
      same_end = after.end_same;
      rest = rw (c.lower_newest.ensures, long) refl;
      fewer_segments = after.fewer_segments;
      fewer = after.fewer;
      counted = after.counted;
    }))

pub set_top-entry-requires-clause-entered : goal.set_top-entry-requires-clause-entered
set_top-entry-requires-clause-entered c =
    let t = c.self.inside in
    let inv = c.self.invariant in
    let at = newest_at t.newest.items c.args.d.0 c.index.result.now (Some c.in-Some.s)
    (subst (λ (x : ThreadList). c.args.d.0 < x.domains) (sym c.self.view_is) c.requires) c.index.ensures c.in-Some.is in
    was_entered t.slots.items t.entries.items t.newest.items t.next_thread t.next_segment inv.0 inv.1 inv.4 c.args.d c.in-Some.s at
    c.take_off-was.new.slots.items c.take_off-was.result c.take_off-was.ensures.taken

pub invariant_of-self-then-is_some-2 : goal.invariant_of-self-then-is_some-2
invariant_of-self-then-is_some-2 c =
    let t = c.self.inside in
    let inv = c.self.invariant in
    let at = newest_at t.newest.items c.args.d.0 c.index.result.now (Some c.in-Some.s)
    (subst (λ (x : ThreadList). c.args.d.0 < x.domains) (sym c.self.view_is) c.requires) c.index.ensures c.in-Some.is in
    let m = c.take_off-was.ensures.taken in
    let there = was_there t.slots.items t.entries.items t.newest.items t.next_thread t.next_segment inv.0 inv.1 inv.4 c.args.d c.in-Some.s at
    c.take_off-was.new.slots.items c.take_off-was.result c.take_off-was.ensures.taken in
    let some = some_live is_live t.slots.items t.live_segments t.most_segments _ inv.3 m.marks.sets.place c.take_off-was.result m.marks.sets.there there in
    let less : t.live_segments - 1 + 1 ≡ t.live_segments = omega (arith, some) in
    let none = none_of c.take_off-was.result.above (sym c.is_some.ensures ∙ c.if-is_some.false) in
    let on : is_some c.take_off-was.result.below ≡ true = sym c.is_some-2.ensures ∙ c.if-is_some-2.true in
    let after =
    taken_on_top t.slots.items t.entries.items t.newest.items t.next_thread t.next_segment inv.0 inv.1 inv.4 c.args.d c.in-Some.s at
    c.take_off-was.new.slots.items c.take_off-was.result c.take_off-was.ensures.taken
    c.warn_neighbours.new.slots.items c.warn_neighbours.ensures.warned t.live_segments (t.live_segments - 1) t.most_segments _ inv.3 less
    c.close_up_slots.new.slots.items
    c.close_up_slots.ensures.closed _ c.lower_newest.ensures none c.set_top-entry.new.entries.items c.set_top-entry.result c.set_top-entry.ensures.set on in
    let alive =
    was_running t.slots.items t.entries.items t.newest.items t.next_thread t.next_segment inv.0 inv.1 inv.4 c.args.d c.in-Some.s at
    c.take_off-was.new.slots.items c.take_off-was.result c.take_off-was.ensures.taken
    c.warn_neighbours.new.slots.items c.warn_neighbours.ensures.warned t.live_segments (t.live_segments - 1) t.most_segments _ inv.3 less
    c.close_up_slots.new.slots.items
    c.close_up_slots.ensures.closed _ c.lower_newest.ensures none c.set_top-entry.new.entries.items c.set_top-entry.result c.set_top-entry.ensures.set in (
      after.order,
      after.links,
      entries_room t.entries.items c.set_top-entry.new.entries.items c.take_off-was.result.thread c.take_off-was.result.below c.set_top-entry.result t.live
          t.most _ inv.2 c.set_top-entry.ensures.set alive _ on c.set_top-entry.ensures.capacity,
      kept_room t.slots.items t.entries.items t.newest.items t.next_thread t.next_segment inv.0 inv.1 inv.4 c.args.d c.in-Some.s at
          c.take_off-was.new.slots.items c.take_off-was.result c.take_off-was.ensures.taken
          c.warn_neighbours.new.slots.items c.warn_neighbours.ensures.warned t.live_segments (t.live_segments - 1) t.most_segments _ inv.3 less
          c.close_up_slots.new.slots.items
          c.close_up_slots.ensures.closed _ c.lower_newest.ensures _
          (c.close_up_slots.ensures.capacity ∙ c.warn_neighbours.ensures.capacity ∙ c.take_off-was.ensures.capacity),
      after.owned,
      none_listed _ _ _ _ _ inv.5.room,
    )

pub returns-then-is_some-2-clause-taken : goal.returns-then-is_some-2-clause-taken
returns-then-is_some-2-clause-taken c =
    let t = c.self.inside in
    let inv = c.self.invariant in
    let at = newest_at t.newest.items c.args.d.0 c.index.result.now (Some c.in-Some.s)
    (subst (λ (x : ThreadList). c.args.d.0 < x.domains) (sym c.self.view_is) c.requires) c.index.ensures c.in-Some.is in
    let m = c.take_off-was.ensures.taken in
    let there = was_there t.slots.items t.entries.items t.newest.items t.next_thread t.next_segment inv.0 inv.1 inv.4 c.args.d c.in-Some.s at
    c.take_off-was.new.slots.items c.take_off-was.result c.take_off-was.ensures.taken in
    let some = some_live is_live t.slots.items t.live_segments t.most_segments _ inv.3 m.marks.sets.place c.take_off-was.result m.marks.sets.there there in
    let less : t.live_segments - 1 + 1 ≡ t.live_segments = omega (arith, some) in
    let none = none_of c.take_off-was.result.above (sym c.is_some.ensures ∙ c.if-is_some.false) in
    let on : is_some c.take_off-was.result.below ≡ true = sym c.is_some-2.ensures ∙ c.if-is_some-2.true in
    let after =
    taken_on_top t.slots.items t.entries.items t.newest.items t.next_thread t.next_segment inv.0 inv.1 inv.4 c.args.d c.in-Some.s at
    c.take_off-was.new.slots.items c.take_off-was.result c.take_off-was.ensures.taken
    c.warn_neighbours.new.slots.items c.warn_neighbours.ensures.warned t.live_segments (t.live_segments - 1) t.most_segments _ inv.3 less
    c.close_up_slots.new.slots.items
    c.close_up_slots.ensures.closed _ c.lower_newest.ensures none c.set_top-entry.new.entries.items c.set_top-entry.result c.set_top-entry.ensures.set on in
    let long =
    newest_as_long t.slots.items t.newest.items inv.4 inv.0.segments c.take_off-was.ensures.taken.marks.sets.place c.take_off-was.result
    c.take_off-was.ensures.taken.marks.sets.there there in
    λ taken is.
    told_so _ _ c.args.d taken None is
    (rw (← c.self.view_is) (record {
      same_end = after.end_same;
      rest = rw (c.lower_newest.ensures, long) refl;
      fewer_segments = after.fewer_segments;
      fewer = after.fewer;
      counted = after.counted;
    }))

pub overflow_sub-self-2 : goal.overflow_sub-self-2
overflow_sub-self-2 c =
    let t = c.self.inside in
    let inv = c.self.invariant in
    let at = newest_at t.newest.items c.args.d.0 c.index.result.now (Some c.in-Some.s)
    (subst (λ (x : ThreadList). c.args.d.0 < x.domains) (sym c.self.view_is) c.requires) c.index.ensures c.in-Some.is in
    let m = c.take_off-was.ensures.taken in
    let there = was_there t.slots.items t.entries.items t.newest.items t.next_thread t.next_segment inv.0 inv.1 inv.4 c.args.d c.in-Some.s at
    c.take_off-was.new.slots.items c.take_off-was.result c.take_off-was.ensures.taken in
    let some = some_live is_live t.slots.items t.live_segments t.most_segments _ inv.3 m.marks.sets.place c.take_off-was.result m.marks.sets.there there in
    let less : t.live_segments - 1 + 1 ≡ t.live_segments = omega (arith, some) in
    let none = none_of c.take_off-was.result.above (sym c.is_some.ensures ∙ c.if-is_some.false) in
    let alive =
    was_running t.slots.items t.entries.items t.newest.items t.next_thread t.next_segment inv.0 inv.1 inv.4 c.args.d c.in-Some.s at
    c.take_off-was.new.slots.items c.take_off-was.result c.take_off-was.ensures.taken
    c.warn_neighbours.new.slots.items c.warn_neighbours.ensures.warned t.live_segments (t.live_segments - 1) t.most_segments _ inv.3 less
    c.close_up_slots.new.slots.items
    c.close_up_slots.ensures.closed _ c.lower_newest.ensures none c.set_top-entry.new.entries.items c.set_top-entry.result c.set_top-entry.ensures.set in
    let s = c.set_top-entry.ensures.set in
    some_live is_running t.entries.items t.live t.most _ inv.2 s.sets.place c.set_top-entry.result s.sets.there alive

pub close_up_entries-requires : goal.close_up_entries-requires
close_up_entries-requires c =
    let t = c.self.inside in
    let inv = c.self.invariant in
    let at = newest_at t.newest.items c.args.d.0 c.index.result.now (Some c.in-Some.s)
    (subst (λ (x : ThreadList). c.args.d.0 < x.domains) (sym c.self.view_is) c.requires) c.index.ensures c.in-Some.is in
    let m = c.take_off-was.ensures.taken in
    let there = was_there t.slots.items t.entries.items t.newest.items t.next_thread t.next_segment inv.0 inv.1 inv.4 c.args.d c.in-Some.s at
    c.take_off-was.new.slots.items c.take_off-was.result c.take_off-was.ensures.taken in
    let some = some_live is_live t.slots.items t.live_segments t.most_segments _ inv.3 m.marks.sets.place c.take_off-was.result m.marks.sets.there there in
    let less : t.live_segments - 1 + 1 ≡ t.live_segments = omega (arith, some) in
    let none = none_of c.take_off-was.result.above (sym c.is_some.ensures ∙ c.if-is_some.false) in
    let off : is_some c.take_off-was.result.below ≡ false = sym c.is_some-2.ensures ∙ c.if-is_some-2.false in
    let alive =
    was_running t.slots.items t.entries.items t.newest.items t.next_thread t.next_segment inv.0 inv.1 inv.4 c.args.d c.in-Some.s at
    c.take_off-was.new.slots.items c.take_off-was.result c.take_off-was.ensures.taken
    c.warn_neighbours.new.slots.items c.warn_neighbours.ensures.warned t.live_segments (t.live_segments - 1) t.most_segments _ inv.3 less
    c.close_up_slots.new.slots.items
    c.close_up_slots.ensures.closed _ c.lower_newest.ensures none c.set_top-entry.new.entries.items c.set_top-entry.result c.set_top-entry.ensures.set in
    let s = c.set_top-entry.ensures.set in
    let some_run = some_live is_running t.entries.items t.live t.most _ inv.2 s.sets.place c.set_top-entry.result s.sets.there alive in
    entries_fewer t.entries.items c.set_top-entry.new.entries.items c.take_off-was.result.thread c.take_off-was.result.below c.set_top-entry.result t.live
    t.most _ inv.2 s alive (t.live - 1) off (omega (arith, some_run))

pub invariant_of-self-2 : goal.invariant_of-self-2
invariant_of-self-2 c =
    let t = c.self.inside in
    let inv = c.self.invariant in
    let at = newest_at t.newest.items c.args.d.0 c.index.result.now (Some c.in-Some.s)
    (subst (λ (x : ThreadList). c.args.d.0 < x.domains) (sym c.self.view_is) c.requires) c.index.ensures c.in-Some.is in
    let m = c.take_off-was.ensures.taken in
    let there = was_there t.slots.items t.entries.items t.newest.items t.next_thread t.next_segment inv.0 inv.1 inv.4 c.args.d c.in-Some.s at
    c.take_off-was.new.slots.items c.take_off-was.result c.take_off-was.ensures.taken in
    let some = some_live is_live t.slots.items t.live_segments t.most_segments _ inv.3 m.marks.sets.place c.take_off-was.result m.marks.sets.there there in
    let less : t.live_segments - 1 + 1 ≡ t.live_segments = omega (arith, some) in
    let none = none_of c.take_off-was.result.above (sym c.is_some.ensures ∙ c.if-is_some.false) in
    let off : is_some c.take_off-was.result.below ≡ false = sym c.is_some-2.ensures ∙ c.if-is_some-2.false in
    let after =
    taken_last t.slots.items t.entries.items t.newest.items t.next_thread t.next_segment inv.0 inv.1 inv.4 c.args.d c.in-Some.s at
    c.take_off-was.new.slots.items c.take_off-was.result c.take_off-was.ensures.taken
    c.warn_neighbours.new.slots.items c.warn_neighbours.ensures.warned t.live_segments (t.live_segments - 1) t.most_segments _ inv.3 less
    c.close_up_slots.new.slots.items
    c.close_up_slots.ensures.closed _ c.lower_newest.ensures none c.set_top-entry.new.entries.items c.set_top-entry.result c.set_top-entry.ensures.set off
    c.close_up_entries.new.entries.items (t.live - 1) c.close_up_entries.ensures.closed in
    let alive =
    was_running t.slots.items t.entries.items t.newest.items t.next_thread t.next_segment inv.0 inv.1 inv.4 c.args.d c.in-Some.s at
    c.take_off-was.new.slots.items c.take_off-was.result c.take_off-was.ensures.taken
    c.warn_neighbours.new.slots.items c.warn_neighbours.ensures.warned t.live_segments (t.live_segments - 1) t.most_segments _ inv.3 less
    c.close_up_slots.new.slots.items
    c.close_up_slots.ensures.closed _ c.lower_newest.ensures none c.set_top-entry.new.entries.items c.set_top-entry.result c.set_top-entry.ensures.set in
    let s = c.set_top-entry.ensures.set in
    let some_run = some_live is_running t.entries.items t.live t.most _ inv.2 s.sets.place c.set_top-entry.result s.sets.there alive in
    let fewer_run : t.live - 1 + 1 ≡ t.live = omega (arith, some_run) in (
      after.order,
      after.links,
      entries_room_closed t.entries.items c.set_top-entry.new.entries.items c.take_off-was.result.thread c.take_off-was.result.below
          c.set_top-entry.result t.live t.most _ inv.2 s alive c.close_up_entries.new.entries.items (t.live - 1) _ off fewer_run
          c.close_up_entries.ensures.closed (c.close_up_entries.ensures.capacity ∙ c.set_top-entry.ensures.capacity),
      kept_room t.slots.items t.entries.items t.newest.items t.next_thread t.next_segment inv.0 inv.1 inv.4 c.args.d c.in-Some.s at
          c.take_off-was.new.slots.items c.take_off-was.result c.take_off-was.ensures.taken
          c.warn_neighbours.new.slots.items c.warn_neighbours.ensures.warned t.live_segments (t.live_segments - 1) t.most_segments _ inv.3 less
          c.close_up_slots.new.slots.items
          c.close_up_slots.ensures.closed _ c.lower_newest.ensures _
          (c.close_up_slots.ensures.capacity ∙ c.warn_neighbours.ensures.capacity ∙ c.take_off-was.ensures.capacity),
      after.owned,
      none_listed _ _ _ _ _ inv.5.room,
    )

pub returns-clause-taken : goal.returns-clause-taken
returns-clause-taken c =
    let t = c.self.inside in
    let inv = c.self.invariant in
    let at = newest_at t.newest.items c.args.d.0 c.index.result.now (Some c.in-Some.s)
    (subst (λ (x : ThreadList). c.args.d.0 < x.domains) (sym c.self.view_is) c.requires) c.index.ensures c.in-Some.is in
    let m = c.take_off-was.ensures.taken in
    let there = was_there t.slots.items t.entries.items t.newest.items t.next_thread t.next_segment inv.0 inv.1 inv.4 c.args.d c.in-Some.s at
    c.take_off-was.new.slots.items c.take_off-was.result c.take_off-was.ensures.taken in
    let some = some_live is_live t.slots.items t.live_segments t.most_segments _ inv.3 m.marks.sets.place c.take_off-was.result m.marks.sets.there there in
    let less : t.live_segments - 1 + 1 ≡ t.live_segments = omega (arith, some) in
    let none = none_of c.take_off-was.result.above (sym c.is_some.ensures ∙ c.if-is_some.false) in
    let off : is_some c.take_off-was.result.below ≡ false = sym c.is_some-2.ensures ∙ c.if-is_some-2.false in
    let after =
    taken_last t.slots.items t.entries.items t.newest.items t.next_thread t.next_segment inv.0 inv.1 inv.4 c.args.d c.in-Some.s at
    c.take_off-was.new.slots.items c.take_off-was.result c.take_off-was.ensures.taken
    c.warn_neighbours.new.slots.items c.warn_neighbours.ensures.warned t.live_segments (t.live_segments - 1) t.most_segments _ inv.3 less
    c.close_up_slots.new.slots.items
    c.close_up_slots.ensures.closed _ c.lower_newest.ensures none c.set_top-entry.new.entries.items c.set_top-entry.result c.set_top-entry.ensures.set off
    c.close_up_entries.new.entries.items (t.live - 1) c.close_up_entries.ensures.closed in
    let long =
    newest_as_long t.slots.items t.newest.items inv.4 inv.0.segments c.take_off-was.ensures.taken.marks.sets.place c.take_off-was.result
    c.take_off-was.ensures.taken.marks.sets.there there in
    λ taken is.
    told_so _ _ c.args.d taken (Some c.set_top-entry.result.domain) is
    (rw (← c.self.view_is) (record {
      same_end = after.end_same;
      rest = rw (c.lower_newest.ensures, long) refl;
      fewer_segments = after.fewer_segments;
      fewer = after.fewer;
      counted = after.counted;
    }))

pub overflow_sub-self : goal.overflow_sub-self
overflow_sub-self c =
    let t = c.self.inside in
    let inv = c.self.invariant in
    let at = newest_at t.newest.items c.args.d.0 c.index.result.now (Some c.in-Some.s)
    (subst (λ (x : ThreadList). c.args.d.0 < x.domains) (sym c.self.view_is) c.requires) c.index.ensures c.in-Some.is in
    let m = c.take_off-was.ensures.taken in
    let there = was_there t.slots.items t.entries.items t.newest.items t.next_thread t.next_segment inv.0 inv.1 inv.4 c.args.d c.in-Some.s at
    c.take_off-was.new.slots.items c.take_off-was.result c.take_off-was.ensures.taken in
    some_live is_live t.slots.items t.live_segments t.most_segments _ inv.3 m.marks.sets.place c.take_off-was.result m.marks.sets.there there
