-- What a thread that begins, a segment that is pushed, one that is taken off, a flag that is changed and marks that are dropped leave: entries and
-- slots in order and linked, and the threads that the calls promise.
use Rattle.std.proofs.Common.{◌≡◌, ◌≢◌, ℕ, suc, ◌+◌, ◌⊎◌, inl, inr, Bool, true, false, List, [], ◌∷◌, ◌++◌, set, drop, map, filter, find, Option, None, refl, sym, ◌∙◌, ap, subst, arith, Some, slice_get}
use Rattle.std.specs.Prelude.{if◌then◌else◌}
use Rattle.std.proofs.lemmas.Bool.{cases_Bool, cases_eq, eqb-true}
use Rattle.std.proofs.lemmas.Option.{same_Some, slice_get_within}
use Rattle.jk_model.specs.declared.identifiers.DomainId.{DomainId}
use Rattle.jk_model.specs.declared.identifiers.SegmentNo.{SegmentNo}
use Rattle.jk_model.specs.declared.identifiers.ThreadNo.{ThreadNo}
use Rattle.jk_model_sharing.specs.Segments.{SharedSegment, SharedThread, has_segments, live_threads, new_segment, thread_numbered, top_of, with_segments, with_stack, without_top}
use Rattle.list_lemmas.proofs.ItemsByPlace.{slice_get-set_same}
use Rattle.list_lemmas.proofs.ItemsOfLists.{Contains-at, place_of}
use Rattle.list_lemmas.proofs.ItemsThatPass.{Contains-filter}
use Rattle.list_lemmas.proofs.TestsAndOrders.{mapped_option}
use Rattle.thread_stacks.specs.declared.entries.ThreadEntry.{ThreadEntry}
use Rattle.thread_stacks.specs.declared.slots.Slot.{Slot}
use Rattle.thread_stacks.specs.Places.{AreRisingBy, has_key}
use Rattle.thread_stacks.specs.StackAnswers.{IsLive}
use Rattle.thread_stacks.specs.StackChanges.{IsClosedUp, dropped, few, slot_new, raised, relinked}
use Rattle.thread_stacks.specs.Stacks.{AreInOrder, AreLinked, IsEntered, is_live, is_running, segment_of, slot_key, slot_number, slots_on, stack_of, stands_on, thread_key, thread_of, threads_of, top_on, above_in, below_in, last_or, thread_in}
use Rattle.thread_stacks.proofs.Filtered.{LastAt, last_at, nothing_passes, top_of-map, filter_mapped}
use Rattle.thread_stacks.proofs.FoundInStacks.{FoundAt, found_at, thread_none, thread_some}
use Rattle.thread_stacks.proofs.KeptInOrder.{entered_last, order_entries_left, order_entry, order_entry_more, order_slot, order_slot_more, order_slots_left, order_mapped}
use Rattle.thread_stacks.proofs.KeptLinks.{nothing_on, tops_left, tops_more, tops_same, tops_set, top_is}
use Rattle.thread_stacks.proofs.StandsOnThreads.{rising_differ, stack_beside, stack_gone, stack_pushed, stack_put, stands_elsewhere, stands_from, stands_nowhere, stands_parts, top_left}
use Rattle.thread_stacks.proofs.ThreadsAfter.{has_some, runs, threads_changed, threads_entries_left, threads_fewer, threads_more, threads_put, threads_slots_left, threads_same}
use Rattle.thread_stacks.proofs.KeptChains.{Chains, chains_left, chains_pushed, chains_without, last_beside, last_elsewhere, last_goes, last_pushed, last_stays}
use Rattle.thread_stacks.proofs.Relinked.{map_same_after, raised_above, raised_below, raised_live, raised_number, raised_on, raised_segment, raised_thread, relinked_above, relinked_below, relinked_live, relinked_number, relinked_on, relinked_thread}

-- ---- A live thread, by its entry.

pub record LiveEntry (slots : List Slot) (es : List ThreadEntry) (t : ThreadNo) : Type 0 where
  pub place : ℕ
  pub entry : ThreadEntry
  pub entry_at : slice_get es place ≡ Some entry
  pub number : entry.number ≡ t.0
  pub has : has_segments (thread_of slots entry) ≡ true
  pub is : thread_numbered (threads_of slots es) t ≡ Some (thread_of slots entry)

pub live_entry : (slots : List Slot) (es : List ThreadEntry) (t : ThreadNo) → AreRisingBy thread_key es → IsLive (threads_of slots es) t
    → LiveEntry slots es t
live_entry slots es t rising live = by_found (find (has_key thread_key t.0) es) refl
  where
    by_has : (e : ThreadEntry) (f : FoundAt (has_key thread_key t.0) es e) → (has_segments (thread_of slots e) ≡ true) ⊎
        (has_segments (thread_of slots e) ≡ false)
        → LiveEntry slots es t
    by_has e f (inl some) =
        let number : e.number ≡ t.0 = eqb-true e.number t.0 f.passes in
        record {
          place = f.place;
          entry = e;
          entry_at = f.there;
          number = number;
          has = some;
          is =
              thread_some slots es t f.place e rising f.there number
              ∙ ap (λ (b : Bool). if b then Some (thread_of slots e) else None) some;
        }
    by_has e f (inr none) =
        let number : e.number ≡ t.0 = eqb-true e.number t.0 f.passes in
        let never : None ≡ Some live.0 =
        sym (thread_some slots es t f.place e rising f.there number ∙ ap (λ (b : Bool). if b then Some (thread_of slots e) else None) none)
        ∙ live.1 in
        absurd cc

    by_found : (o : Option ThreadEntry) → find (has_key thread_key t.0) es ≡ o → LiveEntry slots es t
    by_found None none =
        let never : None ≡ Some live.0 = sym (thread_none slots es t none) ∙ live.1 in absurd cc
    by_found (Some e) found = by_has e (found_at (has_key thread_key t.0) es e found) (cases_Bool (has_segments (thread_of slots e)))

-- its stack isn't empty
full : (slots : List Slot) (u : ℕ) (t : SharedThread) (ss : List SharedSegment) → t.segments ≡ ss → stack_of u slots ≡ ss → has_segments t ≡ true
    → (s : SharedSegment) × (more : List SharedSegment) × (stack_of u slots ≡ s ∷ more)
full slots u t [] none is has =
    let never : false ≡ true = sym (let miss : has_segments t ≡ false = rw none refl in miss) ∙ has in absurd cc
full slots u t (s ∷ more) some is has = (s, more, is)

-- ---- One more segment.

module _ (slots : List Slot) (es : List ThreadEntry) (thread segment : ℕ) (h : AreInOrder slots es thread segment) where
  -- a thread begins
  module _ (d : DomainId) (older : Option SegmentNo) where
    abbrev pub lowest : Slot
    lowest = slot_new segment thread d None older

    abbrev pub first_entry : ThreadEntry
    first_entry = record { number = thread; domain = d; top = Some (record { 0 = segment }) }

    none_yet : slots_on thread slots ≡ []
    none_yet = nothing_on slots es thread segment h

    before : (i : ℕ) (e : ThreadEntry) → slice_get es i ≡ Some e → thread ≢ e.number
    before i e at same = omega (arith, h.threads_before i e at, same)

    on_it : stands_on thread lowest ≡ true
    on_it = stands_from thread lowest refl refl

    pub begun_order : AreInOrder (slots ++ lowest ∷ []) (es ++ first_entry ∷ []) (thread + 1) (segment + 1)
    begun_order =
        order_slot_more slots (es ++ first_entry ∷ []) (thread + 1) segment
        (order_entry_more slots es thread segment h first_entry (thread + 1) refl refl) lowest (segment + 1) refl refl
        (entered_last es first_entry)

    pub begun_threads : threads_of (slots ++ lowest ∷ []) (es ++ first_entry ∷ [])
        ≡ threads_of slots es ++ (let t : SharedThread =
        record { number = record { 0 = thread }; domain = d; segments = new_segment (record { 0 = segment }) d ∷ [] } in t) ∷ []
    begun_threads =
        threads_more slots (slots ++ lowest ∷ []) es first_entry
        (record { number = record { 0 = thread }; domain = d; segments = new_segment (record { 0 = segment }) d ∷ [] })
        (λ i e at. stack_beside e.number slots lowest (stands_elsewhere e.number lowest (before i e at))) begins refl
      where
        stack : stack_of thread (slots ++ lowest ∷ []) ≡ new_segment (record { 0 = segment }) d ∷ []
        stack =
            stack_pushed thread slots lowest on_it
            ∙ ap (λ (ws : List Slot). map segment_of ws ++ segment_of lowest ∷ []) none_yet

        begins : thread_of (slots ++ lowest ∷ []) first_entry
            ≡ (let t : SharedThread =
            record { number = record { 0 = thread }; domain = d; segments = new_segment (record { 0 = segment }) d ∷ [] } in t)
        begins =
            ap (λ (xs : List SharedSegment). let t : SharedThread = record { number = record { 0 = thread }; domain = d; segments = xs } in t) stack

  -- a segment is pushed
  module _ (t : ThreadNo) (d : DomainId) (older : Option SegmentNo) (i : ℕ) (e : ThreadEntry) (at : slice_get es i ≡ Some e) (number : e.number ≡ t.0) where
    abbrev pub pushed_slot : Slot
    pushed_slot = slot_new segment t.0 d e.top older

    abbrev pub raised_entry : ThreadEntry
    raised_entry = record e { top = Some (record { 0 = segment }) }

    on_top : stands_on t.0 pushed_slot ≡ true
    on_top = stands_from t.0 pushed_slot refl refl

    pub pushed_order : AreInOrder (slots ++ pushed_slot ∷ []) (set es i raised_entry) thread (segment + 1)
    pushed_order =
        order_slot_more slots (set es i raised_entry) thread segment (order_entry slots es thread segment h i e raised_entry at refl) pushed_slot
        (segment + 1) refl
        refl
        (record { place = i; entry = raised_entry; there = slice_get-set_same es i raised_entry (slice_get_within es i e at); number = number })

    pub pushed_threads : has_segments (thread_of slots e) ≡ true
        → threads_of (slots ++ pushed_slot ∷ []) (set es i raised_entry)
        ≡ with_stack t (λ (segments : List SharedSegment). segments ++ new_segment (record { 0 = segment }) d ∷ []) (threads_of slots es)
    pushed_threads has =
        threads_put (slots ++ pushed_slot ∷ []) es i e raised_entry at refl refl
        ∙ threads_changed t (λ (segments : List SharedSegment). segments ++ new_segment (record { 0 = segment }) d ∷ []) slots (slots ++ pushed_slot ∷ []) es
        (stack_pushed t.0 slots pushed_slot on_top)
        (λ u ne. stack_beside u slots pushed_slot (stands_elsewhere u pushed_slot (λ same. ne (sym same))))
        (λ x same. still_has x same)
      where
        whole : (s : SharedSegment) × (more : List SharedSegment) × (stack_of t.0 slots ≡ s ∷ more)
        whole = full slots t.0 (thread_of slots e) (stack_of e.number slots) refl (ap (λ (u : ℕ). stack_of u slots) (sym number)) has

        still_has : (x : ThreadEntry) → x.number ≡ t.0
            → has_segments (with_segments (λ (segments : List SharedSegment). segments ++ new_segment (record { 0 = segment }) d ∷ []) (thread_of slots x))
            ≡ has_segments (thread_of slots x)
        still_has x same =
            let is : stack_of x.number slots ≡ whole.0 ∷ whole.1 = ap (λ (u : ℕ). stack_of u slots) same ∙ whole.2 in
            has_some (with_segments (λ (segments : List SharedSegment). segments ++ new_segment (record { 0 = segment }) d ∷ []) (thread_of slots x)) whole.0
            (whole.1 ++ new_segment (record { 0 = segment }) d ∷ [])
            (ap (λ (ss : List SharedSegment). ss ++ new_segment (record { 0 = segment }) d ∷ []) is)
            ∙ sym (has_some (thread_of slots x) whole.0 whole.1 is)

  -- ---- The top segment is taken off.

  module _ (t : ThreadNo) (i : ℕ) (e : ThreadEntry) (at : slice_get es i ≡ Some e) (number : e.number ≡ t.0) (k : ℕ) (s : Slot)
      (slot_at : slice_get slots k ≡ Some s) (on : stands_on t.0 s ≡ true) (no_more : slots_on t.0 (drop (suc k) slots) ≡ []) where
    abbrev pub mark : Slot
    mark = record s { live = false }

    abbrev pub lowered : ThreadEntry
    lowered = record e { top = s.below }

    off : (u : ℕ) → stands_on u mark ≡ false
    off u = stands_nowhere u mark refl

    elsewhere : (u : ℕ) → u ≢ t.0 → stands_on u s ≡ false
    elsewhere u ne = stands_elsewhere u s (λ same. ne (sym same ∙ (stands_parts t.0 s on).1))

    pub popped_order : AreInOrder (set slots k mark) (set es i lowered) thread segment
    popped_order =
        order_entry (set slots k mark) es thread segment
        (order_slot slots es thread segment h k s mark slot_at refl refl (λ never. let no : false ≡ true = never in absurd cc)) i e lowered at refl

    pub popped_threads : threads_of (set slots k mark) (set es i lowered) ≡ live_threads (with_stack t without_top (threads_of slots es))
    popped_threads =
        threads_put (set slots k mark) es i e lowered at refl refl
        ∙ threads_fewer t (λ (ss : List SharedSegment). without_top ss) slots (set slots k mark) es
        (stack_gone t.0 slots k s mark slot_at on (off t.0) no_more)
        (λ u ne. stack_put u slots k s mark slot_at (elsewhere u ne) (off u)) refl

-- ---- With the links of the neighbours.

stack_mapped : (g : Slot → Slot) → ((u : ℕ) (x : Slot) → stands_on u (g x) ≡ stands_on u x) → ((x : Slot) → segment_of (g x) ≡ segment_of x)
    → (slots : List Slot) (u : ℕ) → stack_of u (map g slots) ≡ stack_of u slots
stack_mapped g on same slots u =
    ap (λ (ws : List Slot). map segment_of ws) (filter_mapped (stands_on u) g (on u) slots) ∙ map_same_after segment_of g same (slots_on u slots)

pub threads_mapped : (g : Slot → Slot) → ((u : ℕ) (x : Slot) → stands_on u (g x) ≡ stands_on u x) → ((x : Slot) → segment_of (g x) ≡ segment_of x)
    → (slots : List Slot) (es : List ThreadEntry) → threads_of (map g slots) es ≡ threads_of slots es
threads_mapped g on same slots es = threads_same slots (map g slots) es (stack_mapped g on same slots)

module _ (slots : List Slot) (es : List ThreadEntry) (thread segment : ℕ) (h : AreInOrder slots es thread segment) (l : AreLinked slots es) where
  abbrev num : SegmentNo
  num = record { 0 = segment }

  -- ---- A thread begins.

  module _ (d : DomainId) (older : Option SegmentNo) where
    abbrev begun_slots : List Slot
    begun_slots = map (raised num None older) slots

    begun_base : AreInOrder begun_slots es thread segment
    begun_base =
        order_mapped (raised num None older)
        (λ x. (raised_number num None older x, raised_thread num None older x, raised_live num None older x)) slots es thread segment h

    none_before : None ≡ last_or None (slots_on thread slots)
    none_before = sym (ap (λ (ws : List Slot). last_or None ws) (nothing_on slots es thread segment h))

    abbrev begun_entry : ThreadEntry
    begun_entry = record { number = thread; domain = d; top = Some (record { 0 = segment }) }

    pub begun_in_order : AreInOrder (begun_slots ++ slot_new segment thread d None older ∷ [])
        (es ++ begun_entry ∷ []) (thread + 1) (segment + 1)
    begun_in_order = begun_order begun_slots es thread segment begun_base d older

    pub begun_linked : AreLinked (begun_slots ++ slot_new segment thread d None older ∷ [])
        (es ++ begun_entry ∷ [])
    begun_linked = record {
      stacks =
          chains_pushed stands_on thread_in below_in above_in stands_parts stands_from (raised num None older) None (slot_new segment thread d None older)
          (raised_on num None older) (raised_number num None older) (raised_above num None older) (raised_below num None older) slots h.segments refl
          none_before refl refl l.stacks;
      tops =
          tops_more slots (begun_slots ++ slot_new segment thread d None older ∷ []) es begun_entry
          l.tops
          (sym (top_is thread (begun_slots ++ slot_new segment thread d None older ∷ [])
          ∙ last_pushed stands_on thread_in below_in above_in stands_parts stands_from (raised num None older) None (slot_new segment thread d None older)
          (raised_on num None older) (raised_number num None older) (raised_above num None older) (raised_below num None older) slots h.segments refl
          none_before))
          (λ i e at.
          top_is e.number (begun_slots ++ slot_new segment thread d None older ∷ [])
          ∙ last_beside stands_on thread_in below_in above_in stands_parts stands_from (raised num None older) None (slot_new segment thread d None older)
          (raised_on num None older) (raised_number num None older) (raised_above num None older) (raised_below num None older) slots h.segments refl
          none_before e.number (λ same. omega (arith, h.threads_before i e at, same))
          ∙ sym (top_is e.number slots));
    }

    pub begun_with : threads_of (begun_slots ++ slot_new segment thread d None older ∷ [])
        (es ++ begun_entry ∷ [])
        ≡ threads_of slots es ++ (let t : SharedThread =
        record { number = record { 0 = thread }; domain = d; segments = new_segment (record { 0 = segment }) d ∷ [] } in t) ∷ []
    begun_with =
        begun_threads begun_slots es thread segment begun_base d older
        ∙ ap (λ (ts : List SharedThread). ts ++ (let t : SharedThread =
        record { number = record { 0 = thread }; domain = d; segments = new_segment (record { 0 = segment }) d ∷ [] } in t) ∷ [])
        (threads_mapped (raised num None older) (raised_on num None older) (raised_segment num None older) slots es)

  -- ---- A segment is pushed.

  module _ (t : ThreadNo) (d : DomainId) (older : Option SegmentNo) (i : ℕ) (e : ThreadEntry) (at : slice_get es i ≡ Some e)
      (number : e.number ≡ t.0) where
    abbrev pushed_slots : List Slot
    pushed_slots = map (raised num e.top older) slots

    pushed_base : AreInOrder pushed_slots es thread segment
    pushed_base =
        order_mapped (raised num e.top older)
        (λ x. (raised_number num e.top older x, raised_thread num e.top older x, raised_live num e.top older x)) slots es thread segment h

    top_before : e.top ≡ last_or None (slots_on t.0 slots)
    top_before = l.tops i e at ∙ ap (λ (u : ℕ). top_on u slots) number ∙ top_is t.0 slots

    pub pushed_in_order : AreInOrder (pushed_slots ++ slot_new segment t.0 d e.top older ∷ [])
        (set es i (record e { top = Some (record { 0 = segment }) })) thread (segment + 1)
    pushed_in_order = pushed_order pushed_slots es thread segment pushed_base t d older i e at number

    pub pushed_linked : AreLinked (pushed_slots ++ slot_new segment t.0 d e.top older ∷ [])
        (set es i (record e { top = Some (record { 0 = segment }) }))
    pushed_linked = record {
      stacks =
          chains_pushed stands_on thread_in below_in above_in stands_parts stands_from (raised num e.top older) e.top (slot_new segment t.0 d e.top older)
          (raised_on num e.top older) (raised_number num e.top older) (raised_above num e.top older) (raised_below num e.top older) slots h.segments refl
          top_before refl refl l.stacks;
      tops =
          tops_set slots (pushed_slots ++ slot_new segment t.0 d e.top older ∷ []) es i e (record e { top = Some (record { 0 = segment }) }) h.threads
          l.tops at refl
          (sym (ap (λ (u : ℕ). top_on u (pushed_slots ++ slot_new segment t.0 d e.top older ∷ [])) number
          ∙ top_is t.0 (pushed_slots ++ slot_new segment t.0 d e.top older ∷ [])
          ∙ last_pushed stands_on thread_in below_in above_in stands_parts stands_from (raised num e.top older) e.top
          (slot_new segment t.0 d e.top older) (raised_on num e.top older) (raised_number num e.top older) (raised_above num e.top older)
          (raised_below num e.top older) slots h.segments refl top_before))
          (λ u ne.
          top_is u (pushed_slots ++ slot_new segment t.0 d e.top older ∷ [])
          ∙ last_beside stands_on thread_in below_in above_in stands_parts stands_from (raised num e.top older) e.top
          (slot_new segment t.0 d e.top older) (raised_on num e.top older) (raised_number num e.top older) (raised_above num e.top older)
          (raised_below num e.top older) slots h.segments refl top_before u (λ same. ne (same ∙ sym number))
          ∙ sym (top_is u slots));
    }

    pub pushed_with : has_segments (thread_of slots e) ≡ true
        → threads_of (pushed_slots ++ slot_new segment t.0 d e.top older ∷ []) (set es i (record e { top = Some (record { 0 = segment }) }))
        ≡ with_stack t (λ (segments : List SharedSegment). segments ++ new_segment (record { 0 = segment }) d ∷ []) (threads_of slots es)
    pushed_with has =
        pushed_threads pushed_slots es thread segment pushed_base t d older i e at number
        (ap (λ (ss : List SharedSegment). has_segments (let x : SharedThread =
        record { number = record { 0 = e.number }; domain = e.domain; segments = ss } in x))
        (stack_mapped (raised num e.top older) (raised_on num e.top older) (raised_segment num e.top older) slots e.number) ∙ has)
        ∙ ap (λ (ts : List SharedThread). with_stack t (λ (segments : List SharedSegment). segments ++ new_segment (record { 0 = segment }) d ∷ []) ts)
        (threads_mapped (raised num e.top older) (raised_on num e.top older) (raised_segment num e.top older) slots es)

  -- ---- A segment is taken off, wherever it stands.

  module _ (k : ℕ) (s : Slot) (slot_at : slice_get slots k ≡ Some s) (lives : s.live ≡ true) where
    abbrev pub slots_after : List Slot
    slots_after = map (relinked s) (set slots k (record s { live = false }))

    pub gone_in_order : AreInOrder slots_after es thread segment
    gone_in_order =
        order_mapped (relinked s) (λ x. (relinked_number s x, relinked_thread s x, relinked_live s x)) (set slots k (record s { live = false })) es thread
        segment
        (order_slot slots es thread segment h k s (record s { live = false }) slot_at refl refl (λ never. let no : false ≡ true = never in absurd cc))

    pub gone_stacks : Chains stands_on thread_in below_in above_in stands_parts stands_from slots_after
    gone_stacks =
        chains_without stands_on thread_in below_in above_in stands_parts stands_from s (record s { live = false }) (relinked s) (relinked_on s)
        (relinked_number s) (relinked_below s) (relinked_above s) slots h.segments k slot_at lives refl l.stacks

    pub top_goes : s.above ≡ None → top_on s.thread slots_after ≡ s.below
    top_goes none =
        top_is s.thread slots_after
        ∙ last_goes stands_on thread_in below_in above_in stands_parts stands_from s (record s { live = false }) (relinked s) (relinked_on s)
        (relinked_number s) (relinked_below s) (relinked_above s) slots h.segments k slot_at lives refl l.stacks none

    pub top_stays : (n : SegmentNo) → s.above ≡ Some n → top_on s.thread slots_after ≡ top_on s.thread slots
    top_stays n some =
        top_is s.thread slots_after
        ∙ last_stays stands_on thread_in below_in above_in stands_parts stands_from s (record s { live = false }) (relinked s) (relinked_on s)
        (relinked_number s) (relinked_below s) (relinked_above s) slots h.segments k slot_at lives refl l.stacks n some
        ∙ sym (top_is s.thread slots)

    pub top_elsewhere : (u : ℕ) → u ≢ s.thread → top_on u slots_after ≡ top_on u slots
    top_elsewhere u ne =
        top_is u slots_after
        ∙ last_elsewhere stands_on thread_in below_in above_in stands_parts stands_from s (record s { live = false }) (relinked s) (relinked_on s)
        (relinked_number s) (relinked_below s) (relinked_above s) slots h.segments k slot_at lives refl l.stacks u ne
        ∙ sym (top_is u slots)

    -- the entry of its thread names the one below, where it was on top
    pub gone_linked : (i : ℕ) (e : ThreadEntry) → slice_get es i ≡ Some e → e.number ≡ s.thread → s.above ≡ None
        → AreLinked slots_after (set es i (record e { top = s.below }))
    gone_linked i e at number none = record {
      stacks = gone_stacks;
      tops =
          tops_set slots slots_after es i e (record e { top = s.below }) h.threads l.tops at refl
          (sym (ap (λ (u : ℕ). top_on u slots_after) number ∙ top_goes none)) (λ u ne. top_elsewhere u (λ same. ne (same ∙ sym number)));
    }

-- the top slot of a thread stands where one with its number does
pub last_of : (slots : List Slot) (t : ℕ) (n : SegmentNo) (k : ℕ) (was : Slot) → AreRisingBy slot_key slots → top_on t slots ≡ Some n
    → slice_get slots k ≡ Some was → was.number ≡ n.0 → (stands_on t was ≡ true) × (slots_on t (drop (suc k) slots) ≡ [])
last_of slots t n k was rising top at number = by_last
    (mapped_option slot_number (top_of (slots_on t slots)) n (sym (top_of-map slot_number (slots_on t slots)) ∙ top))
  where
    by_place : (s : Slot) (x : LastAt (stands_on t) slots s) → s.number ≡ was.number → (x.place ≡ k) ⊎ (x.place ≢ k)
        → (stands_on t was ≡ true) × (slots_on t (drop (suc k) slots) ≡ [])
    by_place s x same (inl here) =
        let is : s ≡ was = same_Some s was (sym x.there ∙ ap (slice_get slots) here ∙ at) in (
          ap (stands_on t) (sym is) ∙ x.passes,
          ap (λ (j : ℕ). slots_on t (drop (suc j) slots)) (sym here) ∙ x.no_more,
        )
    by_place s x same (inr other) = absurd (rising_differ slot_key slots x.place k s was rising x.there at other same)

    by_last : (s : Slot) × (top_of (slots_on t slots) ≡ Some s) × (slot_number s ≡ n) → (stands_on t was ≡ true) × (slots_on t (drop (suc k) slots) ≡ [])
    by_last (s, is, same) =
        let x = last_at (stands_on t) slots s is in
        by_place s x (ap (λ (m : SegmentNo). m.0) same ∙ sym number) (cases_eq x.place k)

-- ---- Marks dropped.

pub record AreAsBefore (slots : List Slot) (es : List ThreadEntry) (thread segment : ℕ) (more : List Slot) (less : List ThreadEntry) : Type 0 where
  pub order : AreInOrder more less thread segment
  pub links : AreLinked more less
  pub threads : threads_of more less ≡ threads_of slots es

module _ (slots : List Slot) (es : List ThreadEntry) (thread segment : ℕ) (h : AreInOrder slots es thread segment) (l : AreLinked slots es) where
  pub closed_slots : (new : List Slot) (live : ℕ) → IsClosedUp is_live slots new live → AreAsBefore slots es thread segment new es
  closed_slots new live (few marks same) =
      subst (λ (xs : List Slot). AreAsBefore slots es thread segment xs es) (sym same) (record { order = h; links = l; threads = refl })
  closed_slots new live (dropped is) =
      subst (λ (xs : List Slot). AreAsBefore slots es thread segment xs es) (sym is)
      (record {
        order = order_slots_left slots es thread segment h;
        links = record {
          stacks = chains_left stands_on thread_in below_in above_in stands_parts stands_from slots l.stacks;
          tops = tops_same slots (filter is_live slots) es l.tops (λ t. top_left t slots);
        };
        threads = threads_slots_left slots es;
      })

  -- the entry of a live segment's thread is live
  home_runs : (j : ℕ) (s : Slot) → slice_get slots j ≡ Some s → s.live ≡ true → IsEntered (filter is_running es) s.thread
  home_runs j s at live = by_life (cases_Bool (is_running home.entry))
    where
      home : IsEntered es s.thread
      home = h.homes j s at live

      empty : (xs : List Slot) → slots_on home.entry.number slots ≡ xs → has_segments (thread_of slots home.entry) ≡ false
          → slots_on home.entry.number slots ≡ []
      empty [] is miss = is
      empty (x ∷ xs) is miss =
          let never : true ≡ false =
          sym (has_some (thread_of slots home.entry) (segment_of x) (map segment_of xs) (ap (λ (ws : List Slot). map segment_of ws) is)) ∙ miss in
          absurd cc

      by_life : (is_running home.entry ≡ true) ⊎ (is_running home.entry ≡ false) → IsEntered (filter is_running es) s.thread
      by_life (inl runs_on) =
          let kept = place_of (filter is_running es) home.entry
          (Contains-filter is_running es home.entry (Contains-at es home.place home.entry home.there) runs_on) in
          record { place = kept.0; entry = home.entry; there = kept.1; number = home.number }
      by_life (inr stopped) =
          let none = empty (slots_on home.entry.number slots) refl (runs slots home.entry (l.tops home.place home.entry home.there) ∙ stopped) in
          absurd (nothing_passes (stands_on home.entry.number) slots j s none at (stands_from home.entry.number s live (sym home.number)))

  pub closed_entries : (new : List ThreadEntry) (live : ℕ) → IsClosedUp is_running es new live → AreAsBefore slots es thread segment slots new
  closed_entries new live (few marks same) =
      subst (λ (xs : List ThreadEntry). AreAsBefore slots es thread segment slots xs) (sym same) (record { order = h; links = l; threads = refl })
  closed_entries new live (dropped is) =
      subst (λ (xs : List ThreadEntry). AreAsBefore slots es thread segment slots xs) (sym is)
      (record {
        order = order_entries_left slots es thread segment h is_running home_runs;
        links = record { stacks = l.stacks; tops = tops_left slots es l.tops };
        threads = threads_entries_left slots es l.tops;
      })

-- ---- Where there is nothing yet.

pub no_order : (slots : List Slot) (es : List ThreadEntry) (thread segment : ℕ) → slots ≡ [] → es ≡ [] → AreInOrder slots es thread segment
no_order [] [] thread segment no_slots no_entries = record {
  threads = λ i j x y at. cc;
  threads_before = λ i e at. cc;
  segments = λ i j x y at. cc;
  segments_before = λ i e at. cc;
  homes = λ i s at live. cc;
}
no_order (s ∷ slots) es thread segment no_slots no_entries = absurd cc
no_order [] (e ∷ es) thread segment no_slots no_entries = absurd cc

pub no_links : (slots : List Slot) (es : List ThreadEntry) → slots ≡ [] → es ≡ [] → AreLinked slots es
no_links [] [] no_slots no_entries = record { stacks = λ t. tt; tops = λ i e at. cc }
no_links (s ∷ slots) es no_slots no_entries = absurd cc
no_links [] (e ∷ es) no_slots no_entries = absurd cc

-- the entry of a live thread, wherever it was found, has segments
pub live_has : (slots : List Slot) (es : List ThreadEntry) (t : ThreadNo) (i : ℕ) (e : ThreadEntry) → AreRisingBy thread_key es
    → IsLive (threads_of slots es) t → slice_get es i ≡ Some e → e.number ≡ t.0 → has_segments (thread_of slots e) ≡ true
live_has slots es t i e rising live at number = by_has (cases_Bool (has_segments (thread_of slots e)))
  where
    by_has : (has_segments (thread_of slots e) ≡ true) ⊎ (has_segments (thread_of slots e) ≡ false) → has_segments (thread_of slots e) ≡ true
    by_has (inl some) = some
    by_has (inr none) =
        let never : None ≡ Some live.0 =
        sym (thread_some slots es t i e rising at number ∙ ap (λ (b : Bool). if b then Some (thread_of slots e) else None) none) ∙ live.1 in
        absurd cc
