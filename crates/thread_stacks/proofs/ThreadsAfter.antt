-- The live threads after a segment is pushed or taken off, after a flag is changed, and after marks are dropped.
use Rattle.std.proofs.Common.{◌≡◌, ◌≢◌, ℕ, zero, suc, inl, inr, true, false, List, [], ◌∷◌, ◌++◌, set, map, filter, Option, is_some, refl, sym, ◌∙◌, ap, subst, Some, slice_get}
use Rattle.std.specs.Prelude.{◌==◌, if◌then◌else◌}
use Rattle.std.proofs.lemmas.Bool.{cases_Bool, eqb-true, eq-eqb}
use Rattle.std.proofs.lemmas.List.{map-append}
use Rattle.std.proofs.lemmas.List.Elements.{filter-append}
use Rattle.jk_model.specs.declared.identifiers.SegmentNo.{SegmentNo}
use Rattle.jk_model.specs.declared.identifiers.ThreadNo.{ThreadNo}
use Rattle.jk_model_sharing.specs.Segments.{SharedSegment, SharedThread, has_segments, live_threads, top_of, with_segments, with_stack, with_stacks}
use Rattle.thread_stacks.specs.declared.entries.ThreadEntry.{ThreadEntry}
use Rattle.thread_stacks.specs.declared.slots.Slot.{Slot}
use Rattle.thread_stacks.specs.Stacks.{NameTops, is_live, is_running, segment_of, slot_number, slots_on, stack_of, thread_of, threads_of, top_on}
use Rattle.thread_stacks.proofs.Filtered.{changed_fewer, changed_kept, filter_hit, filter_miss, map-put, top_there}
use Rattle.thread_stacks.proofs.StandsOnThreads.{stack_left}

-- a thread without segments has none
has_none : (t : SharedThread) → t.segments ≡ [] → has_segments t ≡ false
has_none t none = rw none refl

pub has_some : (t : SharedThread) (s : SharedSegment) (more : List SharedSegment) → t.segments ≡ s ∷ more → has_segments t ≡ true
has_some t s more some = rw some refl

-- an entry whose top is another is that of the same thread
pub threads_put : (slots : List Slot) (es : List ThreadEntry) (i : ℕ) (e new : ThreadEntry) → slice_get es i ≡ Some e → new.number ≡ e.number
    → new.domain ≡ e.domain → threads_of slots (set es i new) ≡ threads_of slots es
threads_put slots es i e new at number home =
    ap (λ (ts : List SharedThread). live_threads ts) (map-put (thread_of slots) es i e new at same)
  where
    same : thread_of slots new ≡ thread_of slots e
    same = rw (number, home) refl

-- where each stack is the same, so are the threads
pub threads_same : (slots more : List Slot) (es : List ThreadEntry) → ((t : ℕ) → stack_of t more ≡ stack_of t slots)
    → threads_of more es ≡ threads_of slots es
threads_same slots more [] h = refl
threads_same slots more (e ∷ es) h =
    let here : thread_of more e ≡ thread_of slots e =
    ap (λ (xs : List SharedSegment). let t : SharedThread = record { number = record { 0 = e.number }; domain = e.domain; segments = xs } in t) (h e.number) in
    first (thread_of more e) (thread_of slots e) (map (thread_of more) es) (map (thread_of slots) es) here (threads_same slots more es h)
  where
    first : (t u : SharedThread) (ts us : List SharedThread) → t ≡ u → live_threads ts ≡ live_threads us → live_threads (t ∷ ts) ≡ live_threads (u ∷ us)
    first t u ts us same rest = elim (cases_Bool (has_segments u)) [
      | inl hit ↦
          filter_hit has_segments t ts (ap has_segments same ∙ hit) ∙ ap (λ (ws : List SharedThread). t ∷ ws) rest
          ∙ ap (λ (w : SharedThread). w ∷ live_threads us) same
          ∙ sym (filter_hit has_segments u us hit)
      | inr miss ↦ filter_miss has_segments t ts (ap has_segments same ∙ miss) ∙ rest ∙ sym (filter_miss has_segments u us miss)
    ]

pub threads_slots_left : (slots : List Slot) (es : List ThreadEntry) → threads_of (filter is_live slots) es ≡ threads_of slots es
threads_slots_left slots es = threads_same slots (filter is_live slots) es (λ t. stack_left t slots)

-- ---- What runs.

-- a thread has segments where its entry has a top
runs_by : (slots : List Slot) (e : ThreadEntry) (xs : List Slot) → slots_on e.number slots ≡ xs → e.top ≡ top_on e.number slots
    → has_segments (thread_of slots e) ≡ is_running e
runs_by slots e [] is top =
    has_none (thread_of slots e) (ap (λ (ws : List Slot). map segment_of ws) is)
    ∙ sym (ap (λ (o : Option SegmentNo). is_some o) (top ∙ ap (λ (ws : List Slot). top_of (map slot_number ws)) is))
runs_by slots e (x ∷ xs) is top =
    let there = top_there (slot_number x) (map slot_number xs) in
    has_some (thread_of slots e) (segment_of x) (map segment_of xs) (ap (λ (ws : List Slot). map segment_of ws) is)
    ∙ sym (ap (λ (o : Option SegmentNo). is_some o) (top ∙ ap (λ (ws : List Slot). top_of (map slot_number ws)) is ∙ there.1))

pub runs : (slots : List Slot) (e : ThreadEntry) → e.top ≡ top_on e.number slots → has_segments (thread_of slots e) ≡ is_running e
runs slots e top = runs_by slots e (slots_on e.number slots) refl top

pub threads_entries_left : (slots : List Slot) (es : List ThreadEntry) → NameTops slots es
    → threads_of slots (filter is_running es) ≡ threads_of slots es
threads_entries_left slots [] h = refl
threads_entries_left slots (e ∷ es) h =
    let here : has_segments (thread_of slots e) ≡ is_running e = runs slots e (h zero e refl) in
    let rest : threads_of slots (filter is_running es) ≡ threads_of slots es = threads_entries_left slots es (λ i x at. h (suc i) x at) in
    elim (cases_Bool (is_running e)) [
      | inl hit ↦
          ap (threads_of slots) (filter_hit is_running e es hit)
          ∙ filter_hit has_segments (thread_of slots e) (map (thread_of slots) (filter is_running es)) (here ∙ hit)
          ∙ ap (λ (ts : List SharedThread). thread_of slots e ∷ ts) rest
          ∙ sym (filter_hit has_segments (thread_of slots e) (map (thread_of slots) es) (here ∙ hit))
      | inr miss ↦
          ap (threads_of slots) (filter_miss is_running e es miss) ∙ rest
          ∙ sym (filter_miss has_segments (thread_of slots e) (map (thread_of slots) es) (here ∙ miss))
    ]

-- ---- One more thread.

pub threads_more : (slots more : List Slot) (es : List ThreadEntry) (new : ThreadEntry) (thread : SharedThread)
    → ((i : ℕ) (e : ThreadEntry) → slice_get es i ≡ Some e → stack_of e.number more ≡ stack_of e.number slots)
    → thread_of more new ≡ thread → has_segments thread ≡ true → threads_of more (es ++ new ∷ []) ≡ threads_of slots es ++ thread ∷ []
threads_more slots more es new thread same is some =
    ap (λ (ts : List SharedThread). live_threads ts) (map-append (thread_of more) es (new ∷ []))
    ∙ filter-append has_segments (map (thread_of more) es) (thread_of more new ∷ [])
    ∙ ap (λ (ts : List SharedThread). live_threads (map (thread_of more) es) ++ ts) last
    ∙ ap (λ (ts : List SharedThread). ts ++ thread ∷ []) (olds es same)
  where
    last : live_threads (thread_of more new ∷ []) ≡ thread ∷ []
    last = ap (λ (t : SharedThread). live_threads (t ∷ [])) is ∙ filter_hit has_segments thread [] some

    front : (t u : SharedThread) (ts us : List SharedThread) → t ≡ u → live_threads ts ≡ live_threads us → live_threads (t ∷ ts) ≡ live_threads (u ∷ us)
    front t u ts us same rest = elim (cases_Bool (has_segments u)) [
      | inl hit ↦
          filter_hit has_segments t ts (ap has_segments same ∙ hit) ∙ ap (λ (ws : List SharedThread). t ∷ ws) rest
          ∙ ap (λ (w : SharedThread). w ∷ live_threads us) same
          ∙ sym (filter_hit has_segments u us hit)
      | inr miss ↦ filter_miss has_segments t ts (ap has_segments same ∙ miss) ∙ rest ∙ sym (filter_miss has_segments u us miss)
    ]

    olds : (xs : List ThreadEntry) → ((i : ℕ) (e : ThreadEntry) → slice_get xs i ≡ Some e → stack_of e.number more ≡ stack_of e.number slots)
        → threads_of more xs ≡ threads_of slots xs
    olds [] h = refl
    olds (e ∷ xs) h =
        let here : thread_of more e ≡ thread_of slots e =
        ap (λ (ss : List SharedSegment). let t : SharedThread = record { number = record { 0 = e.number }; domain = e.domain; segments = ss } in t)
        (h zero e refl) in
        front (thread_of more e) (thread_of slots e) (map (thread_of more) xs) (map (thread_of slots) xs) here (olds xs (λ i x at. h (suc i) x at))

-- ---- One thread's stack is changed.

module _ (t : ThreadNo) (change : List SharedSegment → List SharedSegment) where
  abbrev one_stack : SharedThread → SharedThread
  one_stack e = if e.number.0 == t.0 then with_segments change e else e

  -- a thread whose stack is changed so, or is another thread
  thread_changed : (slots more : List Slot) (e : ThreadEntry) → (e.number ≡ t.0 → stack_of e.number more ≡ change (stack_of e.number slots))
      → (e.number ≢ t.0 → stack_of e.number more ≡ stack_of e.number slots) → thread_of more e ≡ one_stack (thread_of slots e)
  thread_changed slots more e on off =
      elim (cases_Bool (e.number == t.0)) [
        | inl hit ↦ rw (hit, on (eqb-true e.number t.0 hit)) refl
        | inr miss ↦ rw (miss, off (λ same. let never : true ≡ false = sym (eq-eqb e.number t.0 same) ∙ miss in absurd cc)) refl
      ]

  changed_has : (e : ThreadEntry) (slots : List Slot) →
      (e.number ≡ t.0 → has_segments (with_segments change (thread_of slots e)) ≡ has_segments (thread_of slots e))
      → has_segments (one_stack (thread_of slots e)) ≡ has_segments (thread_of slots e)
  changed_has e slots on =
      elim (cases_Bool (e.number == t.0)) [
        | inl hit ↦ rw hit (on (eqb-true e.number t.0 hit))
        | inr miss ↦ rw miss refl
      ]

  -- no thread comes or goes
  pub threads_changed : (slots more : List Slot) (es : List ThreadEntry) → stack_of t.0 more ≡ change (stack_of t.0 slots)
      → ((u : ℕ) → u ≢ t.0 → stack_of u more ≡ stack_of u slots)
      → ((e : ThreadEntry) → e.number ≡ t.0 → has_segments (with_segments change (thread_of slots e)) ≡ has_segments (thread_of slots e))
      → threads_of more es ≡ with_stack t change (threads_of slots es)
  threads_changed slots more es on off has =
      changed_kept has_segments (thread_of slots) (thread_of more) one_stack es
      (λ i e at. (thread_changed slots more e (λ same. by_number e same) (λ other. off e.number other), changed_has e slots (has e)))
    where
      by_number : (e : ThreadEntry) → e.number ≡ t.0 → stack_of e.number more ≡ change (stack_of e.number slots)
      by_number e same = subst (λ (u : ℕ). stack_of u more ≡ change (stack_of u slots)) (sym same) on

  -- no thread comes
  pub threads_fewer : (slots more : List Slot) (es : List ThreadEntry) → stack_of t.0 more ≡ change (stack_of t.0 slots)
      → ((u : ℕ) → u ≢ t.0 → stack_of u more ≡ stack_of u slots) → change [] ≡ []
      → threads_of more es ≡ live_threads (with_stack t change (threads_of slots es))
  threads_fewer slots more es on off none =
      changed_fewer has_segments (thread_of slots) (thread_of more) one_stack es
      (λ i e at. (
        thread_changed slots more e (λ same. by_number e same) (λ other. off e.number other),
        λ miss. still_none e (stack_of e.number slots) refl miss,
      ))
    where
      by_number : (e : ThreadEntry) → e.number ≡ t.0 → stack_of e.number more ≡ change (stack_of e.number slots)
      by_number e same = subst (λ (u : ℕ). stack_of u more ≡ change (stack_of u slots)) (sym same) on

      still_none : (e : ThreadEntry) (ss : List SharedSegment) → stack_of e.number slots ≡ ss → has_segments (thread_of slots e) ≡ false
          → has_segments (one_stack (thread_of slots e)) ≡ false
      still_none e [] is miss =
          elim (cases_Bool (e.number == t.0)) [
            | inl hit ↦ rw hit (has_none (with_segments change (thread_of slots e)) (ap change is ∙ none))
            | inr other ↦ rw other miss
          ]
      still_none e (s ∷ more) is miss =
          let never : true ≡ false = sym (has_some (thread_of slots e) s more is) ∙ miss in absurd cc

-- ---- Every stack is changed.

pub threads_flagged : (change : List SharedSegment → List SharedSegment) (slots more : List Slot) (es : List ThreadEntry)
    → ((u : ℕ) → stack_of u more ≡ change (stack_of u slots)) → change [] ≡ []
    → ((s : SharedSegment) (ss : List SharedSegment) → (x : SharedSegment) × (xs : List SharedSegment) × (change (s ∷ ss) ≡ x ∷ xs))
    → threads_of more es ≡ with_stacks change (threads_of slots es)
threads_flagged change slots more es each none some =
    changed_kept has_segments (thread_of slots) (thread_of more) (with_segments change) es
    (λ i e at. (changed_of e, same_has e (stack_of e.number slots) refl))
  where
    changed_of : (e : ThreadEntry) → thread_of more e ≡ with_segments change (thread_of slots e)
    changed_of e =
        ap (λ (xs : List SharedSegment). let t : SharedThread = record { number = record { 0 = e.number }; domain = e.domain; segments = xs } in t)
        (each e.number)

    same_has : (e : ThreadEntry) (ss : List SharedSegment) → stack_of e.number slots ≡ ss
        → has_segments (with_segments change (thread_of slots e)) ≡ has_segments (thread_of slots e)
    same_has e [] is =
        has_none (with_segments change (thread_of slots e)) (ap change is ∙ none) ∙ sym (has_none (thread_of slots e) is)
    same_has e (s ∷ ss) is =
        let c = some s ss in
        has_some (with_segments change (thread_of slots e)) c.0 c.1 (ap change is ∙ c.2) ∙ sym (has_some (thread_of slots e) s ss is)
