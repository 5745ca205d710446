-- Threads that are put together of parts: where their segments stand before and after these are sorted, and that they are the threads told.
use Rattle.std.proofs.Common.{◌≡◌, ◌≢◌, ℕ, suc, ◌*◌, ◌<◌, ◌≤◌, true, List, [], ◌∷◌, ◌++◌, length, map, take, filter, Contains, Option, None, Some, slice_get, IsPermutation, refl, sym, ◌∙◌, ap, subst, arith, append-nil}
use Rattle.std.specs.List.Sorted.{IsNonDecreasingBy}
use Rattle.std.proofs.lemmas.List.{length-map, map-append, nil_from_length}
use Rattle.std.proofs.lemmas.List.Concat.{flat_map-append}
use Rattle.std.proofs.lemmas.List.Sorted.{Contains-permutation, IsPermutation-sym, length_permutation}
use Rattle.jk_model.specs.declared.identifiers.DomainId.{DomainId}
use Rattle.jk_model.specs.declared.identifiers.SegmentNo.{SegmentNo}
use Rattle.jk_model_sharing.specs.Segments.{SharedSegment, SharedThread, has_segments, live_threads}
use Rattle.list_lemmas.proofs.EndsOfLists.{head_is, tail_is}
use Rattle.list_lemmas.proofs.ItemsByPlace.{comes_from, mapped_at}
use Rattle.list_lemmas.proofs.ItemsOfLists.{Contains-at, Contains-flat_map_from, Contains-here, Contains-there, place_of}
use Rattle.list_lemmas.proofs.LastItems.{take_next}
use Rattle.thread_stacks.specs.declared.entries.ThreadEntry.{ThreadEntry}
use Rattle.thread_stacks.specs.declared.parts.SegmentPart.{SegmentPart}
use Rattle.thread_stacks.specs.declared.parts.ThreadPart.{ThreadPart}
use Rattle.thread_stacks.specs.declared.restoring.PlacedPart.{PlacedPart}
use Rattle.thread_stacks.specs.declared.slots.Slot.{Slot}
use Rattle.thread_stacks.specs.LiveStacks.{AreLive, ArePut, MayPut, entry_without, is_placed_on, placed_at, placed_key, placed_on, placed_parts, placed_segment, topless}
use Rattle.thread_stacks.specs.Places.{AreRisingBy}
use Rattle.thread_stacks.specs.StackAnswers.{segments_in}
use Rattle.thread_stacks.specs.StackParts.{segment_part, thread_part}
use Rattle.thread_stacks.specs.Stacks.{AreInOrder, AreOwned, HasRoom, NameTops, is_live, is_running, last_or, owned_by, stack_of, thread_key, thread_of, threads_of}
use Rattle.thread_stacks.proofs.CountedAlive.{count_segments, count_threads}
use Rattle.thread_stacks.proofs.FilteredByOwner.{all_pass, made_of_one}
use Rattle.thread_stacks.proofs.KeptInOrder.{rising_filter}
use Rattle.thread_stacks.proofs.PutOnTop.{slice_get-same_map}
use Rattle.thread_stacks.proofs.SortedOnce.{Differ, filter_sorted, rising_sorted}
use Rattle.thread_stacks.proofs.ThreadsAfter.{has_some}

-- ---- One more thread.

pub placed_more : (parts : List ThreadPart) (k : ℕ) (p : ThreadPart) → slice_get parts k ≡ Some p → (placed more : List PlacedPart)
    → placed ≡ placed_parts (take k parts) → more ≡ placed ++ placed_on p → more ≡ placed_parts (take (suc k) parts)
placed_more parts k p at placed more was is =
    is ∙ ap (λ (ps : List PlacedPart). ps ++ placed_on p) was
    ∙ sym (ap (λ (qs : List ThreadPart). placed_parts qs) (take_next parts k p at)
    ∙ flat_map-append placed_on (take k parts) (p ∷ [])
    ∙ ap (λ (ps : List PlacedPart). placed_parts (take k parts) ++ ps) (append-nil (placed_on p)))

-- ---- Nothing live.

pub no_entries : (slots : List Slot) (es : List ThreadEntry) (live most capacity : ℕ) → NameTops slots es → HasRoom is_running es live most capacity
    → threads_of slots es ≡ [] → es ≡ []
no_entries slots es live most capacity tops room none =
    nil_from_length es (omega (arith, room.marks, room.counted, count_threads slots es tops, ap (λ (ts : List SharedThread). length ts) none))

pub no_slots : (slots : List Slot) (es : List ThreadEntry) (thread segment live most capacity : ℕ) → AreInOrder slots es thread segment
    → HasRoom is_live slots live most capacity → threads_of slots es ≡ [] → slots ≡ []
no_slots slots es thread segment live most capacity h room none =
    nil_from_length slots
    (omega (
      arith,
      room.marks,
      room.counted,
      count_segments slots es thread segment h,
      ap (λ (ts : List SharedThread). length (segments_in ts)) none,
    ))

pub none_newest : (slots : List Slot) (newest : List (Option SegmentNo)) → AreOwned slots newest → slots ≡ [] → (d : ℕ) (o : Option SegmentNo)
    → slice_get newest d ≡ Some o → o ≡ None
none_newest slots newest owned none d o at = owned.lasts d o at ∙ ap (λ (ws : List Slot). last_or None (owned_by d ws)) none

-- ---- Segments with the numbers of their threads.

same_segments : (n : ℕ) (ss : List SharedSegment) → map placed_segment (map (placed_at n) (map segment_part ss)) ≡ ss
same_segments n [] = refl
same_segments n (s ∷ ss) = ap (λ (rest : List SharedSegment). s ∷ rest) (same_segments n ss)

same_on : (t : SharedThread) → map placed_segment (placed_on (thread_part t)) ≡ t.segments
same_on t = same_segments t.number.0 t.segments

all_segments : (ts : List SharedThread) → map placed_segment (placed_parts (map thread_part ts)) ≡ segments_in ts
all_segments [] = refl
all_segments (t ∷ ts) =
    map-append placed_segment (placed_on (thread_part t)) (placed_parts (map thread_part ts))
    ∙ ap (λ (ss : List SharedSegment). ss ++ map placed_segment (placed_parts (map thread_part ts))) (same_on t)
    ∙ ap (λ (ss : List SharedSegment). t.segments ++ ss) (all_segments ts)

on_its_thread : (x : ThreadPart) (y : PlacedPart) → Contains (placed_on x) y → y.thread ≡ x.number.0
on_its_thread x y h =
    let there = place_of (placed_on x) y h in
    let c = comes_from (placed_at x.number.0) x.segments there.0 y there.1 in
    sym (ap (λ (z : PlacedPart). z.thread) c.gives)

abbrev part_key : ThreadPart → ℕ
part_key p = p.number.0

pub entries_long : (es : List ThreadEntry) (parts : List ThreadPart) → map topless es ≡ map topless (map entry_without parts)
    → length es ≡ length parts
entries_long es parts same =
    sym (length-map es topless) ∙ ap (λ (xs : List ThreadEntry). length xs) same ∙ length-map (map entry_without parts) topless
    ∙ length-map parts entry_without

-- entries of the same threads, with the stacks of these
threads_are : (slots : List Slot) (es : List ThreadEntry) (ts : List SharedThread)
    → map topless es ≡ map topless (map entry_without (map thread_part ts))
    → ((t : SharedThread) → Contains ts t → stack_of t.number.0 slots ≡ t.segments) → map (thread_of slots) es ≡ ts
threads_are slots [] [] same stacks = refl
threads_are slots [] (t ∷ ts) same stacks = absurd cc
threads_are slots (e ∷ es) [] same stacks = absurd cc
threads_are slots (e ∷ es) (t ∷ ts) same stacks =
    ap (λ (x : SharedThread). x ∷ map (thread_of slots) es) first
    ∙ ap (λ (xs : List SharedThread). t ∷ xs)
    (threads_are slots es ts
    (tail_is (topless e) (topless (entry_without (thread_part t))) (map topless es) (map topless (map entry_without (map thread_part ts))) same)
    (λ u there. stacks u (Contains-there u t ts there)))
  where
    head : topless e ≡ topless (entry_without (thread_part t))
    head =
        head_is (topless e) (topless (entry_without (thread_part t))) (map topless es) (map topless (map entry_without (map thread_part ts))) same

    number : e.number ≡ t.number.0
    number = ap thread_key head

    domain : e.domain ≡ t.domain
    domain = ap (λ (x : ThreadEntry). x.domain) head

    stack : stack_of e.number slots ≡ t.segments
    stack = ap (λ (u : ℕ). stack_of u slots) number ∙ stacks t (Contains-here t ts)

    first : thread_of slots e ≡ t
    first =
        ap (λ (ss : List SharedSegment). let x : SharedThread = record { number = record { 0 = e.number }; domain = e.domain; segments = ss } in x) stack
        ∙ ap (λ (n : ℕ). let x : SharedThread = record { number = record { 0 = n }; domain = e.domain; segments = t.segments } in x) number
        ∙ ap (λ (d : DomainId). let x : SharedThread = record { number = t.number; domain = d; segments = t.segments } in x) domain

has_some_segments : (t : SharedThread) (ss : List SharedSegment) → t.segments ≡ ss → t.segments ≢ [] → has_segments t ≡ true
has_some_segments t [] is some = absurd (some is)
has_some_segments t (s ∷ ss) is some = has_some t s ss is

-- ---- All of them.

module _ (ts : List SharedThread) (parts : List ThreadPart) (told : parts ≡ map thread_part ts) (domains next_thread next_segment : ℕ)
    (live : AreLive ts domains next_thread next_segment) (placed : List PlacedPart) (same : IsPermutation (placed_parts parts) placed)
    (order : IsNonDecreasingBy placed_key placed) where
  segments_told : map placed_segment (placed_parts parts) ≡ segments_in ts
  segments_told = ap (λ (qs : List ThreadPart). map placed_segment (placed_parts qs)) told ∙ all_segments ts

  segment_at : (i : ℕ) (p : PlacedPart) → slice_get (placed_parts parts) i ≡ Some p → slice_get (segments_in ts) i ≡ Some (placed_segment p)
  segment_at i p at = ap (λ (ss : List SharedSegment). slice_get ss i) (sym segments_told) ∙ mapped_at placed_segment (placed_parts parts) i p at

  differ : Differ placed_key (placed_parts parts)
  differ i j x y at_i at_j equal =
      live.differ i j (placed_segment x) (placed_segment y) (segment_at i x at_i) (segment_at j y at_j)
      (ap (λ (n : ℕ). let s : SegmentNo = record { 0 = n } in s) equal)

  pub placed_rise : AreRisingBy placed_key placed
  placed_rise = rising_sorted placed_key (placed_parts parts) placed same order differ

  -- a segment that is placed is one of those told
  placed_told : (i : ℕ) (p : PlacedPart) → slice_get placed i ≡ Some p → Contains (placed_parts parts) p
  placed_told i p at =
      Contains-permutation placed (placed_parts parts) p (IsPermutation-sym (placed_parts parts) placed same) (Contains-at placed i p at)

  in_segments : (i : ℕ) (p : PlacedPart) → slice_get placed i ≡ Some p → Contains (segments_in ts) (placed_segment p)
  in_segments i p at =
      let there = place_of (placed_parts parts) p (placed_told i p at) in
      Contains-at (segments_in ts) there.0 (placed_segment p) (segment_at there.0 p there.1)

  parts_rise : AreRisingBy part_key parts
  parts_rise i j x y at_i at_j low =
      let a = comes_from thread_part ts i x (ap (λ (qs : List ThreadPart). slice_get qs i) (sym told) ∙ at_i) in
      let b = comes_from thread_part ts j y (ap (λ (qs : List ThreadPart). slice_get qs j) (sym told) ∙ at_j) in
      let ka : a.from.number.0 ≡ x.number.0 = ap part_key a.gives in
      let kb : b.from.number.0 ≡ y.number.0 = ap part_key b.gives in
      let less : a.from.number.0 < b.from.number.0 = live.threads i j a.from b.from a.there b.there low in
      omega (arith, less, ka, kb)

  pub may_put : (newest : List (Option SegmentNo)) → ((d : ℕ) (o : Option SegmentNo) → slice_get newest d ≡ Some o → o ≡ None)
      → length newest ≡ domains → MayPut (map entry_without parts) [] newest placed
  may_put newest none long = record {
    threads =
        λ i j x y at_i at_j low.
        let a = comes_from entry_without parts i x at_i in
        let b = comes_from entry_without parts j y at_j in
        let ka : a.from.number.0 ≡ x.number = ap thread_key a.gives in
        let kb : b.from.number.0 ≡ y.number = ap thread_key b.gives in
        let less : a.from.number.0 < b.from.number.0 = parts_rise i j a.from b.from a.there b.there low in
        omega (arith, less, ka, kb);
    bound = next_thread;
    before =
        λ i e at.
        let a = comes_from entry_without parts i e at in
        let b = comes_from thread_part ts i a.from (ap (λ (qs : List ThreadPart). slice_get qs i) (sym told) ∙ a.there) in
        let ka : a.from.number.0 ≡ e.number = ap thread_key a.gives in
        let kb : b.from.number.0 ≡ a.from.number.0 = ap part_key b.gives in
        omega (arith, live.threads_before b.from (Contains-at ts i b.from b.there), ka, kb);
    no_tops = λ i e at. let a = comes_from entry_without parts i e at in sym (ap (λ (x : ThreadEntry). x.top) a.gives);
    no_slots = refl;
    none_newest = none;
    order = placed_rise;
    entered =
        λ i p at.
        let from = Contains-flat_map_from placed_on parts p (placed_told i p at) in
        let there = place_of parts from.0 from.1 in
        record {
          place = there.0;
          entry = entry_without from.0;
          there = mapped_at entry_without parts there.0 from.0 there.1;
          number = sym (on_its_thread from.0 p from.2);
        };
    domains = λ i p at. omega (arith, live.owners (placed_segment p) (in_segments i p at), long);
  }

  -- ---- After all are put.

  module _ (es : List ThreadEntry) (slots : List Slot) (newest newest_now : List (Option SegmentNo))
      (put : ArePut (map entry_without parts) es slots newest newest_now placed) where
    stack_is : (t : SharedThread) → Contains ts t → stack_of t.number.0 slots ≡ t.segments
    stack_is t there =
        let at = place_of ts t there in
        let here : slice_get parts at.0 ≡ Some (thread_part t) =
        ap (λ (qs : List ThreadPart). slice_get qs at.0) told ∙ mapped_at thread_part ts at.0 t at.1 in
        let one : filter (is_placed_on t.number.0) (placed_parts parts) ≡ placed_on (thread_part t) =
        made_of_one (λ (q : PlacedPart). q.thread) part_key placed_on on_its_thread parts at.0 (thread_part t) parts_rise here in
        let own_rise : AreRisingBy placed_key (placed_on (thread_part t)) =
        λ i j x y at_i at_j low.
        let a = comes_from (placed_at t.number.0) (map segment_part t.segments) i x at_i in
        let b = comes_from (placed_at t.number.0) (map segment_part t.segments) j y at_j in
        let f = comes_from segment_part t.segments i a.from a.there in
        let g = comes_from segment_part t.segments j b.from b.there in
        let less : f.from.number.0 < g.from.number.0 = live.segments t there i j f.from g.from f.there g.there low in
        let kf : f.from.number.0 ≡ a.from.number.0 = ap (λ (s : SegmentPart). s.number.0) f.gives in
        let kg : g.from.number.0 ≡ b.from.number.0 = ap (λ (s : SegmentPart). s.number.0) g.gives in
        let ka : a.from.number.0 ≡ x.segment.number.0 = ap placed_key a.gives in
        let kb : b.from.number.0 ≡ y.segment.number.0 = ap placed_key b.gives in
        omega (arith, less, kf, kg, ka, kb) in
        let sorted : filter (is_placed_on t.number.0) placed ≡ filter (is_placed_on t.number.0) (placed_parts parts) =
        filter_sorted placed_key (is_placed_on t.number.0) (placed_parts parts) placed same
        (rising_filter placed_key (is_placed_on t.number.0) placed placed_rise)
        (subst (λ (ps : List PlacedPart). AreRisingBy placed_key ps) (sym one) own_rise) in
        put.stacks t.number.0 ∙ ap (λ (ps : List PlacedPart). map placed_segment ps) (sorted ∙ one) ∙ same_on t

    same_told : map topless es ≡ map topless (map entry_without (map thread_part ts))
    same_told = put.same_threads ∙ ap (λ (qs : List ThreadPart). map topless (map entry_without qs)) told

    pub threads_told : threads_of slots es ≡ ts
    threads_told =
        ap (λ (us : List SharedThread). live_threads us) (threads_are slots es ts same_told stack_is)
        ∙ all_pass has_segments ts
        (λ k t at. has_some_segments t t.segments refl (live.have_segments t (Contains-at ts k t at)))

    pub in_order_again : AreInOrder slots es next_thread next_segment
    in_order_again =
        let o = put.order next_segment (λ i p at. live.segments_before (placed_segment p) (in_segments i p at)) in
        record {
          threads = o.order.threads;
          threads_before =
              λ i e at.
              let x = slice_get-same_map topless es (map entry_without (map thread_part ts)) i e same_told at in
              let a = comes_from entry_without (map thread_part ts) i x.0 x.1 in
              let b = comes_from thread_part ts i a.from a.there in
              let kx : x.0.number ≡ e.number = ap thread_key x.2 in
              let ka : a.from.number.0 ≡ x.0.number = ap thread_key a.gives in
              let kb : b.from.number.0 ≡ a.from.number.0 = ap part_key b.gives in
              omega (arith, live.threads_before b.from (Contains-at ts i b.from b.there), kx, ka, kb);
          segments = o.order.segments;
          segments_before = o.order.segments_before;
          homes = o.order.homes;
        }

    pub threads_room : (most capacity : ℕ) → length parts ≤ most → 2 * most ≤ capacity → HasRoom is_running es (length parts) most capacity
    threads_room most capacity within room = record {
      counted =
          omega (
            arith,
            count_threads slots es put.links.tops,
            ap (λ (us : List SharedThread). length us) threads_told,
            ap (λ (qs : List ThreadPart). length qs) told,
            length-map ts thread_part,
          );
      within = within;
      marks = omega (arith, entries_long es parts put.same_threads);
      room = room;
    }

    pub slots_room : (most capacity : ℕ) → length placed ≤ most → 2 * most ≤ capacity → HasRoom is_live slots (length placed) most capacity
    slots_room most capacity within room = record {
      counted = sym (ap (λ (ws : List Slot). length ws) (all_pass is_live slots put.all_live) ∙ put.as_many);
      within = within;
      marks = omega (arith, put.as_many);
      room = room;
    }

    pub as_many_segments : length placed ≡ length (segments_in ts)
    as_many_segments =
        length_permutation (placed_parts parts) placed same
        ∙ sym (length-map (placed_parts parts) placed_segment)
        ∙ ap (λ (ss : List SharedSegment). length ss) segments_told
