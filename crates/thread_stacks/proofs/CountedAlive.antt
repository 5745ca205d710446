-- How many threads and segments are live, counted by entries and slots; and that there is room for more.
use Rattle.std.proofs.Common.{◌≡◌, ℕ, zero, suc, ◌+◌, ◌*◌, ◌<◌, ◌≤◌, inl, inr, Bool, true, false, List, [], ◌∷◌, ◌++◌, length, set, take, drop, map, filter, find, None, refl, sym, ◌∙◌, ap, arith, Some, slice_get, length-append}
use Rattle.std.specs.Prelude.{◌==◌, ◌&&◌}
use Rattle.std.proofs.lemmas.Bool.{cases_Bool, cases_eq, eq-eqb, ne_eqb}
use Rattle.std.proofs.lemmas.List.{length-map, length-set}
use Rattle.std.proofs.lemmas.List.Elements.{filter-append}
use Rattle.jk_model.specs.declared.identifiers.DomainId.{DomainId}
use Rattle.jk_model_sharing.specs.Segments.{SharedSegment, SharedThread, count_started_in, has_segments, live_threads}
use Rattle.thread_stacks.specs.declared.entries.ThreadEntry.{ThreadEntry}
use Rattle.thread_stacks.specs.declared.slots.Slot.{Slot}
use Rattle.thread_stacks.specs.Places.{AreRisingBy, IsOnlyAt, has_key}
use Rattle.thread_stacks.specs.StackAnswers.{segments_in}
use Rattle.thread_stacks.specs.StackChanges.{IsClosedUp, dropped, few}
use Rattle.thread_stacks.specs.Stacks.{AreInOrder, HasRoom, IsEntered, NameTops, is_live, is_running, segment_of, slots_on, stack_of, stands_on, thread_key, thread_of, threads_of}
use Rattle.thread_stacks.proofs.Filtered.{all_fail, filter_hit, filter_miss, filter_parted, filter_twice, length_first, length_put, one_if, filter_mapped}
use Rattle.thread_stacks.proofs.FoundInStacks.{head_fails, same_only}
use Rattle.thread_stacks.proofs.ItemsByKey.{only_at}
use Rattle.thread_stacks.proofs.StandsOnThreads.{stands_nowhere}
use Rattle.thread_stacks.proofs.ThreadsAfter.{runs}

-- ---- Room.

module _ {X : Type 0} (test : X → Bool) (xs : List X) (live most capacity : ℕ) (h : HasRoom test xs live most capacity) where
  pub room_for_one : live < most → length xs < capacity
  room_for_one low = omega (arith, h.marks, h.room, low)

  pub room_more : (new : X) (more now : ℕ) → test new ≡ true → live < most → more ≡ live + 1 → now ≡ capacity
      → HasRoom test (xs ++ new ∷ []) more most now
  room_more new more now hit low one same = record {
    counted =
        omega (
          arith,
          h.counted,
          one,
          ap (λ (ws : List X). length ws) (filter-append test xs (new ∷ [])),
          length-append (filter test xs) (filter test (new ∷ [])),
          ap (λ (ws : List X). length ws) (filter_hit test new [] hit),
        );
    within = omega (arith, low, one);
    marks = omega (arith, h.marks, one, length-append xs (new ∷ []));
    room = omega (arith, h.room, same);
  }

  -- an item is replaced by one that is as live
  pub room_put : (k now : ℕ) (x y : X) → slice_get xs k ≡ Some x → test y ≡ test x → now ≡ capacity → HasRoom test (set xs k y) live most now
  room_put k now x y at same now_is = record {
    counted = omega (arith, h.counted, length_put test xs k x y at, ap one_if same);
    within = h.within;
    marks = omega (arith, h.marks, length-set xs k y);
    room = omega (arith, h.room, now_is);
  }

  -- each is changed, and is as live
  pub room_mapped : (g : X → X) (now : ℕ) → ((x : X) → test (g x) ≡ test x) → now ≡ capacity → HasRoom test (map g xs) live most now
  room_mapped g now same now_is = record {
    counted =
        omega (arith, h.counted, ap (λ (ws : List X). length ws) (filter_mapped test g same xs), length-map (filter test xs) g);
    within = h.within;
    marks = omega (arith, h.marks, length-map xs g);
    room = omega (arith, h.room, now_is);
  }

  -- one is marked
  pub fewer_by_one : (k fewer : ℕ) (x y : X) → slice_get xs k ≡ Some x → test x ≡ true → test y ≡ false → fewer + 1 ≡ live
      → fewer ≡ length (filter test (set xs k y))
  fewer_by_one k fewer x y at hit miss less = omega (arith, h.counted, length_put test xs k x y at, ap one_if hit, ap one_if miss, less)

  -- where one is live, some are
  pub some_live : (k : ℕ) (x : X) → slice_get xs k ≡ Some x → test x ≡ true → 1 ≤ live
  some_live k x at hit =
      omega (
        arith,
        h.counted,
        ap (λ (ws : List X). length ws) (filter_parted test xs k x at),
        length-append (filter test (take k xs)) (filter test (x ∷ drop (suc k) xs)),
        length_first test x (drop (suc k) xs),
        ap one_if hit,
      )

pub room_closed : {X : Type 0} (test : X → Bool) (old new : List X) (live most capacity : ℕ) → IsClosedUp test old new live
    → live ≡ length (filter test old) → live ≤ most → 2 * most ≤ capacity → HasRoom test new live most capacity
room_closed test old new live most capacity (few marks same) counted within room =
    record { counted = counted ∙ sym (ap (λ ws. length (filter test ws)) same); within = within; marks = omega (arith, marks, ap length same); room = room }
room_closed test old new live most capacity (dropped is) counted within room = record {
  counted = counted ∙ sym (ap (λ ws. length ws) (filter_twice test test (λ x hit. hit) old)) ∙ sym (ap (λ ws. length (filter test ws)) is);
  within = within;
  marks = omega (arith, counted, ap length is);
  room = room;
}

pub no_room : {X : Type 0} (test : X → Bool) (xs : List X) (n capacity : ℕ) → xs ≡ [] → n ≡ 0 → HasRoom test xs n n capacity
no_room test [] n capacity none zero_of = record {
  counted = zero_of;
  within = omega arith;
  marks = omega (arith, zero_of);
  room = omega (arith, zero_of);
}
no_room test (x ∷ xs) n capacity none zero_of = absurd cc

-- ---- Threads.

-- live, and started in a domain
abbrev pub runs_in : DomainId → ThreadEntry → Bool
runs_in d e = is_running e && (e.domain.0 == d.0)

length_live : (t : SharedThread) (ts : List SharedThread) → length (live_threads (t ∷ ts)) ≡ one_if (has_segments t) + length (live_threads ts)
length_live t ts = length_first has_segments t ts

pub count_threads : (slots : List Slot) (es : List ThreadEntry) → NameTops slots es → length (threads_of slots es) ≡ length (filter is_running es)
count_threads slots [] h = refl
count_threads slots (e ∷ es) h =
    omega (
      arith,
      length_first has_segments (thread_of slots e) (map (thread_of slots) es),
      length_first is_running e es,
      ap one_if (runs slots e (h zero e refl)),
      count_threads slots es (λ i x at. h (suc i) x at),
    )

started_first : (d : DomainId) (t : SharedThread) (ts : List SharedThread)
    → count_started_in (live_threads (t ∷ ts)) d ≡ one_if (has_segments t && (t.domain.0 == d.0)) + count_started_in (live_threads ts) d
started_first d t ts =
    elim (cases_Bool (has_segments t)) [
      | inl some ↦
          ap (λ (us : List SharedThread). count_started_in us d) (filter_hit has_segments t ts some)
          ∙ length_first (λ (x : SharedThread). x.domain.0 == d.0) t (live_threads ts)
          ∙ ap (λ (b : Bool). one_if (b && (t.domain.0 == d.0)) + count_started_in (live_threads ts) d) (sym some)
      | inr none ↦
          ap (λ (us : List SharedThread). count_started_in us d) (filter_miss has_segments t ts none)
          ∙ zero_and (count_started_in (live_threads ts) d)
          ∙ ap (λ (b : Bool). one_if (b && (t.domain.0 == d.0)) + count_started_in (live_threads ts) d) (sym none)
    ]
  where
    zero_and : (n : ℕ) → n ≡ 0 + n
    zero_and n = omega arith

pub count_started : (slots : List Slot) (es : List ThreadEntry) (d : DomainId) → NameTops slots es
    → count_started_in (threads_of slots es) d ≡ length (filter (runs_in d) es)
count_started slots [] d h = refl
count_started slots (e ∷ es) d h =
    omega (
      arith,
      started_first d (thread_of slots e) (map (thread_of slots) es),
      length_first (runs_in d) e es,
      ap (λ (b : Bool). one_if (b && (e.domain.0 == d.0))) (runs slots e (h zero e refl)),
      count_started slots es d (λ i x at. h (suc i) x at),
    )

-- ---- Segments.

-- threads without segments have none
pub live_segments : (threads : List SharedThread) → segments_in (live_threads threads) ≡ segments_in threads
live_segments [] = refl
live_segments (t ∷ threads) = by_segments t.segments refl (live_segments threads)
  where
    by_segments : (xs : List SharedSegment) → t.segments ≡ xs → segments_in (live_threads threads) ≡ segments_in threads
        → segments_in (live_threads (t ∷ threads)) ≡ segments_in (t ∷ threads)
    by_segments [] is rest =
        let none : has_segments t ≡ false = rw is refl in
        rw (none, is) rest
    by_segments (s ∷ xs) is rest =
        let some : has_segments t ≡ true = rw is refl in
        rw (some, rest) refl

none_left : {X : Type 0} (test : X → Bool) (xs : List X) → find test xs ≡ None → filter test xs ≡ []
none_left test [] none = refl
none_left test (x ∷ xs) none =
    let head = head_fails test x xs none in filter_miss test x xs head.0 ∙ none_left test xs head.1

only_counted : {X : Type 0} (test : X → Bool) (xs : List X) (i : ℕ) → IsOnlyAt test xs i → length (filter test xs) ≡ 1
only_counted test [] i only = absurd only
only_counted test (x ∷ xs) zero only =
    omega (arith, length_first test x xs, ap one_if only.0, ap (λ ws. length ws) (none_left test xs only.1))
only_counted test (x ∷ xs) (suc i) only = omega (arith, length_first test x xs, ap one_if only.0, only_counted test xs i only.1)

stack_first : (t : ℕ) (s : Slot) (slots : List Slot) → length (stack_of t (s ∷ slots)) ≡ one_if (stands_on t s) + length (stack_of t slots)
stack_first t s slots =
    omega (arith, length-map (slots_on t (s ∷ slots)) segment_of, length-map (slots_on t slots) segment_of, length_first (stands_on t) s slots)

counted_first : (s : Slot) (slots : List Slot) (es : List ThreadEntry)
    → length (segments_in (map (thread_of (s ∷ slots)) es))
    ≡ length (filter (λ (e : ThreadEntry). stands_on e.number s) es) + length (segments_in (map (thread_of slots) es))
counted_first s slots [] = omega arith
counted_first s slots (e ∷ es) =
    omega (
      arith,
      length-append (stack_of e.number (s ∷ slots)) (segments_in (map (thread_of (s ∷ slots)) es)),
      length-append (stack_of e.number slots) (segments_in (map (thread_of slots) es)),
      stack_first e.number s slots,
      length_first (λ (x : ThreadEntry). stands_on x.number s) e es,
      counted_first s slots es,
    )

none_counted : (es : List ThreadEntry) → length (segments_in (map (thread_of []) es)) ≡ 0
none_counted [] = refl
none_counted (e ∷ es) = none_counted es

on_one : (s : Slot) (es : List ThreadEntry) → AreRisingBy thread_key es → (s.live ≡ true → IsEntered es s.thread)
    → length (filter (λ (e : ThreadEntry). stands_on e.number s) es) ≡ one_if s.live
on_one s es rising home = elim (cases_Bool s.live) [
  | inl live ↦
      let at = home live in
      only_counted (λ (e : ThreadEntry). stands_on e.number s) es at.place
      (same_only (λ (e : ThreadEntry). stands_on e.number s) (has_key thread_key s.thread) (λ e. turned e live) es at.place
      (only_at thread_key es at.place s.thread at.entry rising at.there at.number))
      ∙ sym (ap one_if live)
  | inr dead ↦
      ap (λ (ws : List ThreadEntry). length ws)
      (all_fail (λ (e : ThreadEntry). stands_on e.number s) es (λ k e there. stands_nowhere e.number s dead))
      ∙ sym (ap one_if dead)
]
  where
    turned : (e : ThreadEntry) → s.live ≡ true → stands_on e.number s ≡ (e.number == s.thread)
    turned e live = elim (cases_eq e.number s.thread) [
      | inl same ↦ rw live (eq-eqb s.thread e.number (sym same) ∙ sym (eq-eqb e.number s.thread same))
      | inr other ↦ rw live (ne_eqb s.thread e.number (λ same. other (sym same)) ∙ sym (ne_eqb e.number s.thread other))
    ]

counted_slots : (slots : List Slot) (es : List ThreadEntry) → AreRisingBy thread_key es
    → ((i : ℕ) (s : Slot) → slice_get slots i ≡ Some s → s.live ≡ true → IsEntered es s.thread)
    → length (segments_in (map (thread_of slots) es)) ≡ length (filter is_live slots)
counted_slots [] es rising homes = none_counted es
counted_slots (s ∷ slots) es rising homes =
    omega (
      arith,
      counted_first s slots es,
      on_one s es rising (λ live. homes zero s refl live),
      length_first is_live s slots,
      counted_slots slots es rising (λ i x at live. homes (suc i) x at live),
    )

pub count_segments : (slots : List Slot) (es : List ThreadEntry) (thread segment : ℕ) → AreInOrder slots es thread segment
    → length (segments_in (threads_of slots es)) ≡ length (filter is_live slots)
count_segments slots es thread segment h =
    ap (λ (ws : List SharedSegment). length ws) (live_segments (map (thread_of slots) es)) ∙ counted_slots slots es h.threads h.homes
