-- A thread's top segment is taken off: its slot is marked, marks are dropped, and the thread's entry names the next segment, or ends.
use Rattle.std.proofs.Common.{◌≡◌, ℕ, suc, ◌+◌, ◌*◌, Bool, true, false, List, [], length, set, drop, filter, is_some, Option, None, Some, refl, sym, ◌∙◌, ap, subst, arith, map}
use Rattle.std.specs.Prelude.{◌==◌, ◌&&◌, if◌then◌else◌, option_map}
use Rattle.std.proofs.lemmas.Option.{same_Some}
use Rattle.jk_model.specs.declared.identifiers.DomainId.{DomainId}
use Rattle.jk_model.specs.declared.identifiers.SegmentNo.{SegmentNo}
use Rattle.jk_model.specs.declared.identifiers.ThreadNo.{ThreadNo}
use Rattle.jk_model_sharing.specs.Segments.{SharedThread, count_started_in, has_segments, live_threads, thread_numbered, top_of, top_segment, with_stack, without_top}
use Rattle.list_lemmas.proofs.TestsAndOrders.{mapped_option}
use Rattle.thread_stacks.specs.declared.entries.ThreadEntry.{ThreadEntry}
use Rattle.thread_stacks.specs.declared.slots.Slot.{Slot}
use Rattle.thread_stacks.specs.StackAnswers.{IsLive, number_of}
use Rattle.thread_stacks.specs.StackChanges.{IsClosedUp, IsTopSet, IsTakenOff, dropped, few, newest_after, relinked}
use Rattle.thread_stacks.specs.Stacks.{AreInOrder, AreLinked, HasRoom, IsSlotted, is_live, is_running, slot_number, slots_on, stands_on, thread_of, threads_of, top_on, AreOwned, above_in, below_in, first_or, thread_in, slot_key}
use Rattle.thread_stacks.proofs.CountedAlive.{count_started, count_threads, fewer_by_one, room_closed, room_put, runs_in}
use Rattle.thread_stacks.proofs.Filtered.{last_at, length_put, one_if, top_of-map, filter_mapped}
use Rattle.thread_stacks.proofs.FoundInStacks.{thread_some, top_told}
use Rattle.thread_stacks.proofs.PushedAndPopped.{AreAsBefore, LiveEntry, closed_entries, closed_slots, last_of, live_entry, live_has, popped_threads, gone_in_order, gone_linked, threads_mapped}
use Rattle.thread_stacks.proofs.StandsOnThreads.{stands_parts, stands_from}
use Rattle.thread_stacks.proofs.ThreadsAfter.{runs}
use Rattle.thread_stacks.proofs.KeptInOrder.{order_entry}
use Rattle.thread_stacks.proofs.KeptChains.{names}
use Rattle.thread_stacks.proofs.Owned.{owned_gone, owned_left}
use Rattle.thread_stacks.specs.Places.{AreRisingBy}
use Rattle.std.proofs.lemmas.List.{length-map}
use Rattle.thread_stacks.proofs.Relinked.{relinked_above, relinked_below, relinked_live, relinked_number, relinked_on, relinked_segment}

-- What the lists hold then: order and links, one segment fewer on the thread, and so many threads fewer.
pub record HasPopped (slots : List Slot) (es : List ThreadEntry) (thread segment : ℕ) (t : ThreadNo) (was : ThreadEntry) (kept : List Slot)
    (left : List ThreadEntry) (gone : ℕ) : Type 0 where
  pub order : AreInOrder kept left thread segment
  pub links : AreLinked kept left
  pub threads : threads_of kept left ≡ live_threads (with_stack t without_top (threads_of slots es))
  pub fewer : length (threads_of kept left) + gone ≡ length (threads_of slots es)
  pub started : (d : DomainId)
      → count_started_in (threads_of kept left) d + gone * one_if (was.domain.0 == d.0) ≡ count_started_in (threads_of slots es) d
  pub home : (e : SharedThread) → thread_numbered (threads_of slots es) t ≡ Some e → was.domain ≡ e.domain

module _ (slots : List Slot) (es : List ThreadEntry) (thread segment : ℕ) (h : AreInOrder slots es thread segment) (l : AreLinked slots es) (t : ThreadNo)
    (live : IsLive (threads_of slots es) t) where
  entry : LiveEntry slots es t
  entry = live_entry slots es t h.threads live

  -- the top segment is the one that the entry names
  pub named_top : option_map number_of (top_segment (threads_of slots es) t) ≡ top_on t.0 slots
  named_top =
      top_told slots es t entry.place entry.entry h.threads l.tops entry.entry_at entry.number
      ∙ l.tops entry.place entry.entry entry.entry_at
      ∙ ap (λ (u : ℕ). top_on u slots) entry.number

  -- there is one
  pub has_top : None ≡ option_map number_of (top_segment (threads_of slots es) t) → ⊥
  has_top none =
      let stopped : None ≡ entry.entry.top =
      none ∙ top_told slots es t entry.place entry.entry h.threads l.tops entry.entry_at entry.number in
      let still : is_running entry.entry ≡ true =
      sym (runs slots entry.entry (l.tops entry.place entry.entry entry.entry_at)) ∙ entry.has in
      let never : false ≡ true = ap (λ (o : Option SegmentNo). is_some o) stopped ∙ still in cc

  module _ (top : SegmentNo) (is_top : Some top ≡ option_map number_of (top_segment (threads_of slots es) t)) where
    pub top_is : top_on t.0 slots ≡ Some top
    top_is = sym (is_top ∙ named_top)

    pub top_slotted : IsSlotted slots top.0
    top_slotted =
        let s = mapped_option slot_number (top_of (slots_on t.0 slots)) top (sym (top_of-map slot_number (slots_on t.0 slots)) ∙ top_is) in
        let x = last_at (stands_on t.0) slots s.0 s.1 in
        record { place = x.place; slot = s.0; there = x.there; number = ap (λ (m : SegmentNo). m.0) s.2 }

    module _ (new : List Slot) (slot : Slot) (m : IsTakenOff slots new top.0 slot) where
      stands : (stands_on t.0 slot ≡ true) × (slots_on t.0 (drop (suc m.marks.sets.place) slots) ≡ [])
      stands = last_of slots t.0 top m.marks.sets.place slot h.segments top_is m.marks.sets.there m.marks.number

      pub was_live : slot.live ≡ true
      was_live = (stands_parts t.0 slot stands.0).0

      was_on_top : slot.above ≡ None
      was_on_top =
          (names stands_on thread_in below_in above_in stands_parts stands_from slot (record slot { live = false }) (relinked slot) (relinked_on slot)
          (relinked_number slot) (relinked_below slot) (relinked_above slot) slots h.segments m.marks.sets.place m.marks.sets.there was_live refl l.stacks).1
          ∙ ap (λ (u : ℕ). first_or None (slots_on u (drop (suc m.marks.sets.place) slots))) (stands_parts t.0 slot stands.0).1
          ∙ ap (λ (ws : List Slot). first_or None ws) stands.1

      abbrev gone : List Slot
      gone = map (relinked slot) (set slots m.marks.sets.place (record slot { live = false }))

      new_is : new ≡ gone
      new_is = m.becomes ∙ ap (λ (ws : List Slot). map (relinked slot) ws) m.marks.sets.becomes

      module _ (kept : List Slot) (count : ℕ) (closed : IsClosedUp is_live new kept count) (lowered : List ThreadEntry) (was : ThreadEntry)
          (s : IsTopSet es lowered t.0 slot.below was) where
        pub has : has_segments (thread_of slots was) ≡ true
        has = live_has slots es t s.sets.place was h.threads live s.sets.there s.number

        pub ran : is_running was ≡ true
        ran = sym (runs slots was (l.tops s.sets.place was s.sets.there)) ∙ has

        left : AreAsBefore gone (set es s.sets.place (record was { top = slot.below })) thread segment kept
            (set es s.sets.place (record was { top = slot.below }))
        left =
            closed_slots gone (set es s.sets.place (record was { top = slot.below })) thread segment
            (order_entry gone es thread segment
            (gone_in_order slots es thread segment h l m.marks.sets.place slot m.marks.sets.there was_live) s.sets.place was
            (record was { top = slot.below }) s.sets.there refl)
            (gone_linked slots es thread segment h l m.marks.sets.place slot m.marks.sets.there was_live s.sets.place was s.sets.there
            (s.number ∙ sym (stands_parts t.0 slot stands.0).1) was_on_top) kept count
            (subst (λ (xs : List Slot). IsClosedUp is_live xs kept count) new_is closed)

        pub popped_in_order : AreInOrder kept lowered thread segment
        popped_in_order = subst (λ (xs : List ThreadEntry). AreInOrder kept xs thread segment) (sym s.sets.becomes) left.order

        pub popped_linked : AreLinked kept lowered
        popped_linked = subst (λ (xs : List ThreadEntry). AreLinked kept xs) (sym s.sets.becomes) left.links

        pub popped_off : threads_of kept lowered ≡ live_threads (with_stack t without_top (threads_of slots es))
        popped_off =
            ap (λ (xs : List ThreadEntry). threads_of kept xs) s.sets.becomes ∙ left.threads
            ∙ threads_mapped (relinked slot) (relinked_on slot) (relinked_segment slot) (set slots m.marks.sets.place (record slot { live = false }))
            (set es s.sets.place (record was { top = slot.below }))
            ∙ popped_threads slots es thread segment h t s.sets.place was s.sets.there s.number m.marks.sets.place slot m.marks.sets.there stands.0 stands.1

        pub started_in : (e : SharedThread) → thread_numbered (threads_of slots es) t ≡ Some e → was.domain ≡ e.domain
        started_in e found =
            let is : Some (thread_of slots was) ≡ Some e =
            sym (thread_some slots es t s.sets.place was h.threads s.sets.there s.number
            ∙ ap (λ (b : Bool). if b then Some (thread_of slots was) else None) has)
            ∙ found in
            ap (λ (x : SharedThread). x.domain) (same_Some (thread_of slots was) e is)

        -- ---- What is counted.

        lengths : length (filter is_running lowered) + 1 ≡ length (filter is_running es) + one_if (is_some slot.below)
        lengths =
            omega (
              arith,
              ap (λ (xs : List ThreadEntry). length (filter is_running xs)) s.sets.becomes,
              length_put is_running es s.sets.place was (record was { top = slot.below }) s.sets.there,
              ap one_if ran,
            )

        started : (d : DomainId) → length (filter (runs_in d) lowered) + one_if (was.domain.0 == d.0)
            ≡ length (filter (runs_in d) es) + one_if (is_some slot.below && (was.domain.0 == d.0))
        started d =
            omega (
              arith,
              ap (λ (xs : List ThreadEntry). length (filter (runs_in d) xs)) s.sets.becomes,
              length_put (runs_in d) es s.sets.place was (record was { top = slot.below }) s.sets.there,
              ap (λ (b : Bool). one_if (b && (was.domain.0 == d.0))) ran,
            )

        pub as_many : is_some slot.below ≡ true → length (threads_of kept lowered) ≡ length (threads_of slots es)
        as_many on =
            omega (arith, count_threads kept lowered popped_linked.tops, count_threads slots es l.tops, lengths, ap one_if on)

        pub one_fewer : is_some slot.below ≡ false → length (threads_of kept lowered) + 1 ≡ length (threads_of slots es)
        one_fewer off =
            omega (arith, count_threads kept lowered popped_linked.tops, count_threads slots es l.tops, lengths, ap one_if off)

        pub as_many_started : (d : DomainId) → is_some slot.below ≡ true
            → count_started_in (threads_of kept lowered) d ≡ count_started_in (threads_of slots es) d
        as_many_started d on =
            omega (
              arith,
              count_started kept lowered d popped_linked.tops,
              count_started slots es d l.tops,
              started d,
              ap (λ (b : Bool). one_if (b && (was.domain.0 == d.0))) on,
            )

        pub fewer_started : (d : DomainId) → is_some slot.below ≡ false
            → count_started_in (threads_of kept lowered) d + one_if (was.domain.0 == d.0) ≡ count_started_in (threads_of slots es) d
        fewer_started d off =
            omega (
              arith,
              count_started kept lowered d popped_linked.tops,
              count_started slots es d l.tops,
              started d,
              ap (λ (b : Bool). one_if (b && (was.domain.0 == d.0))) off,
            )

        -- ---- All of it.

        pub goes_on : is_some slot.below ≡ true → HasPopped slots es thread segment t was kept lowered 0
        goes_on on = record {
          order = popped_in_order;
          links = popped_linked;
          threads = popped_off;
          fewer = omega (arith, as_many on);
          started = λ d. omega (arith, as_many_started d on);
          home = started_in;
        }

        pub ends : is_some slot.below ≡ false → (left : List ThreadEntry) (fewer : ℕ) → IsClosedUp is_running lowered left fewer
            → HasPopped slots es thread segment t was kept left 1
        ends off left fewer closed_up =
            let a = closed_entries kept lowered thread segment popped_in_order popped_linked left fewer closed_up in
            record {
              order = a.order;
              links = a.links;
              threads = a.threads ∙ popped_off;
              fewer = omega (arith, one_fewer off, ap (λ (ts : List SharedThread). length ts) a.threads);
              started = λ d. omega (arith, fewer_started d off, ap (λ (ts : List SharedThread). count_started_in ts d) a.threads);
              home = started_in;
            }

-- ---- What domains have.

pub owned_closed : (slots new : List Slot) (newest : List (Option SegmentNo)) (live : ℕ) → AreOwned slots newest → IsClosedUp is_live slots new live
    → AreOwned new newest
owned_closed slots new newest live o (few marks same) = subst (λ (xs : List Slot). AreOwned xs newest) (sym same) o
owned_closed slots new newest live o (dropped is) = subst (λ (xs : List Slot). AreOwned xs newest) (sym is) (owned_left slots newest o)

pub owned_after : (slots new kept : List Slot) (newest lower : List (Option SegmentNo)) (n live : ℕ) (slot : Slot) → AreRisingBy slot_key slots
    → AreOwned slots newest → IsTakenOff slots new n slot → slot.live ≡ true → IsClosedUp is_live new kept live → lower ≡ newest_after slot newest
    → AreOwned kept lower
owned_after slots new kept newest lower n live slot rising o m was closed is =
    subst (λ (xs : List (Option SegmentNo)). AreOwned kept xs) (sym is)
    (owned_closed new kept (newest_after slot newest) live
    (subst (λ (xs : List Slot). AreOwned xs (newest_after slot newest))
    (sym (m.becomes ∙ ap (λ (ws : List Slot). map (relinked slot) ws) m.marks.sets.becomes))
    (owned_gone slots newest o rising m.marks.sets.place slot m.marks.sets.there was)) closed)

-- ---- Room.

pub taken_count : (slots new : List Slot) (n : ℕ) (slot : Slot) (live fewer most capacity : ℕ) → HasRoom is_live slots live most capacity
    → IsTakenOff slots new n slot → slot.live ≡ true → fewer + 1 ≡ live → fewer ≡ length (filter is_live new)
taken_count slots new n slot live fewer most capacity h m was less =
    fewer_by_one is_live slots live most capacity h m.marks.sets.place fewer slot (record slot { live = false }) m.marks.sets.there was refl less
    ∙ sym (ap (λ (xs : List Slot). length (filter is_live xs)) (m.becomes ∙ ap (λ (ws : List Slot). map (relinked slot) ws) m.marks.sets.becomes)
    ∙ ap (λ (xs : List Slot). length xs)
    (filter_mapped is_live (relinked slot) (relinked_live slot) (set slots m.marks.sets.place (record slot { live = false })))
    ∙ length-map (filter is_live (set slots m.marks.sets.place (record slot { live = false }))) (relinked slot))

pub slots_room : (slots new kept : List Slot) (n : ℕ) (slot : Slot) (live fewer most capacity now : ℕ) → HasRoom is_live slots live most capacity
    → IsTakenOff slots new n slot → slot.live ≡ true → fewer + 1 ≡ live → IsClosedUp is_live new kept fewer → now ≡ capacity
    → HasRoom is_live kept fewer most now
slots_room slots new kept n slot live fewer most capacity now h m was less closed same =
    room_closed is_live new kept fewer most now closed (taken_count slots new n slot live fewer most capacity h m was less)
    (omega (arith, h.within, less)) (omega (arith, h.room, same))

module _ (es lowered : List ThreadEntry) (u : ℕ) (top : Option SegmentNo) (was : ThreadEntry) (live most capacity : ℕ)
    (h : HasRoom is_running es live most capacity) (s : IsTopSet es lowered u top was) (ran : is_running was ≡ true) where
  pub entries_room : (now : ℕ) → is_some top ≡ true → now ≡ capacity → HasRoom is_running lowered live most now
  entries_room now on same =
      subst (λ (xs : List ThreadEntry). HasRoom is_running xs live most now) (sym s.sets.becomes)
      (room_put is_running es live most capacity h s.sets.place now was (record was { top = top }) s.sets.there (on ∙ sym ran) same)

  pub entries_fewer : (fewer : ℕ) → is_some top ≡ false → fewer + 1 ≡ live → fewer ≡ length (filter is_running lowered)
  entries_fewer fewer off less =
      fewer_by_one is_running es live most capacity h s.sets.place fewer was (record was { top = top }) s.sets.there ran off less
      ∙ sym (ap (λ (xs : List ThreadEntry). length (filter is_running xs)) s.sets.becomes)

  pub entries_room_closed : (left : List ThreadEntry) (fewer now : ℕ) → is_some top ≡ false → fewer + 1 ≡ live
      → IsClosedUp is_running lowered left fewer → now ≡ capacity → HasRoom is_running left fewer most now
  entries_room_closed left fewer now off less closed same =
      room_closed is_running lowered left fewer most now closed (entries_fewer fewer off less) (omega (arith, h.within, less))
      (omega (arith, h.room, same))
