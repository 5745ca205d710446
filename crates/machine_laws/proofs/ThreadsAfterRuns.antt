-- Where a segment has run, each thread is sealed: its segments fit, and threads and segments keep their numbers.
use Rattle.std.proofs.Common.{◌≡◌, ◌≢◌, ℕ, ◌<◌, ◌≤◌, ◌⊎◌, inl, inr, List, [], ◌∷◌, ◌++◌, length, Contains, Some, slice_get, set, refl, sym, ap, subst, ◌∙◌, arith}
use Rattle.std.proofs.lemmas.Bool.{cases_eq}
use Rattle.std.proofs.lemmas.Option.{same_Some, slice_get_within}
use Rattle.jk_model.specs.declared.identifiers.SegmentNo.{SegmentNo}
use Rattle.jk_model.specs.declared.identifiers.ThreadNo.{ThreadNo}
use Rattle.jk_model_machine_state.specs.Machines.{Machine, Segment, Thread}
use Rattle.jk_model_runs.specs.Sealed.{AreSealedThreads, SegmentsFit}
use Rattle.list_lemmas.proofs.ItemsByPlace.{slice_get-front, slice_get-last, slice_get-push_cases, slice_get-set_other, slice_get-set_same}
use Rattle.list_lemmas.proofs.ItemsOfLists.{Contains-at, place_of}
use Rattle.machine_laws.proofs.SegmentsStillFit.{others_fit, own_fit}
use Rattle.machine_laws.proofs.SegmentsThatRan.{HasRun, after, stood, thread_here, thread_there, threads_are}

module _ (m : Machine) (t : ThreadNo) (r : HasRun m t) where
  -- ---- Which thread stands where.

  pub thread_cases : (i : ℕ) (e : Thread) → slice_get (after r).threads i ≡ Some e
      → ((i ≡ (stood m t r).0) × (thread_here r ≡ e)) ⊎ ((i ≢ (stood m t r).0) × (slice_get m.threads i ≡ Some e))
  thread_cases i e at = by (cases_eq i (stood m t r).0)
    where
      now : slice_get (set m.threads (stood m t r).0 (thread_here r)) i ≡ Some e
      now = ap (λ (ts : List Thread). slice_get ts i) (sym (threads_are m t r)) ∙ at

      by : (i ≡ (stood m t r).0) ⊎ (i ≢ (stood m t r).0)
          → ((i ≡ (stood m t r).0) × (thread_here r ≡ e)) ⊎ ((i ≢ (stood m t r).0) × (slice_get m.threads i ≡ Some e))
      by (inl same) =
          inl (
            same,
            same_Some (thread_here r) e
                (sym (slice_get-set_same m.threads (stood m t r).0 (thread_here r)
                (slice_get_within m.threads (stood m t r).0 r.place.thread (stood m t r).1))
                ∙ ap (slice_get (set m.threads (stood m t r).0 (thread_here r))) (sym same) ∙ now),
          )
      by (inr differ) =
          inr (differ, sym (slice_get-set_other m.threads (stood m t r).0 i (thread_here r) (λ same. differ (sym same))) ∙ now)

  pub each_thread : (P : Thread → Type 0) → P (thread_here r)
      → ((i : ℕ) (e : Thread) → i ≢ (stood m t r).0 → slice_get m.threads i ≡ Some e → P e)
      → (e : Thread) → Contains (after r).threads e → P e
  each_thread P new old e on =
      let at = place_of (after r).threads e on in
      elim (thread_cases at.0 e at.1) [
        | inl (same, is) ↦ subst P is new
        | inr (differ, is) ↦ old at.0 e differ is
      ]

  -- ---- What stood there before.

  record WasNumbered (i : ℕ) (e : Thread) : Type 0 where
    before : Thread
    at : slice_get m.threads i ≡ Some before
    number : e.number.0 ≡ before.number.0

  was_numbered : (i : ℕ) (e : Thread) → slice_get (after r).threads i ≡ Some e → WasNumbered i e
  was_numbered i e at = elim (thread_cases i e at) [
    | inl (same, is) ↦ record {
      before = r.place.thread;
      at = ap (slice_get m.threads) same ∙ (stood m t r).1;
      number = ap (λ (x : Thread). x.number.0) (sym is);
    }
    | inr (differ, is) ↦ record { before = e; at = is; number = refl }
  ]

  -- the segment that stood at a place before has the same number and domain
  pub record WasSegment (i k : ℕ) (s : Segment) : Type 0 where
    pub thread : Thread
    pub at : slice_get m.threads i ≡ Some thread
    pub before : Segment
    pub stood_there : slice_get thread.segments k ≡ Some before
    pub number : s.shared.number ≡ before.shared.number
    pub domain : s.shared.domain ≡ before.shared.domain

  pub running_at : slice_get r.place.thread.segments (length r.place.lower) ≡ Some r.place.segment
  running_at =
      ap (λ (xs : List Segment). slice_get xs (length r.place.lower)) r.place.are_segments ∙ slice_get-last r.place.lower r.place.segment

  in_running : (i k : ℕ) (s : Segment) → slice_get m.threads i ≡ Some r.place.thread → slice_get (r.place.lower ++ r.segment ∷ []) k ≡ Some s
      → WasSegment i k s
  in_running i k s at there = elim (slice_get-push_cases r.place.lower r.segment s k there) [
    | inl (within, was) ↦ record {
      thread = r.place.thread;
      at = at;
      before = s;
      stood_there = ap (λ (xs : List Segment). slice_get xs k) r.place.are_segments
          ∙ slice_get-front r.place.lower (r.place.segment ∷ []) k within ∙ was;
      number = refl;
      domain = refl;
    }
    | inr (last, is) ↦ record {
      thread = r.place.thread;
      at = at;
      before = r.place.segment;
      stood_there = ap (slice_get r.place.thread.segments) last ∙ running_at;
      number = ap (λ (x : Segment). x.shared.number) (sym is) ∙ r.number;
      domain = ap (λ (x : Segment). x.shared.domain) (sym is) ∙ r.domain;
    }
  ]

  pub was_segment : (i k : ℕ) (e : Thread) (s : Segment) → slice_get (after r).threads i ≡ Some e → slice_get e.segments k ≡ Some s
      → WasSegment i k s
  was_segment i k e s at there = elim (thread_cases i e at) [
    | inl (same, is) ↦
        in_running i k s (ap (slice_get m.threads) same ∙ (stood m t r).1)
        (ap (λ (x : Thread). slice_get x.segments k) is ∙ there)
    | inr (differ, is) ↦ record { thread = e; at = is; before = s; stood_there = there; number = refl; domain = refl }
  ]

  -- ---- All threads.

  rising : (i j : ℕ) (a b : Thread) → i < j → slice_get (after r).threads i ≡ Some a → slice_get (after r).threads j ≡ Some b
      → a.number.0 < b.number.0
  rising i j a b lower at bt =
      let was = was_numbered i a at in
      let were = was_numbered j b bt in
      less_moved a.number.0 b.number.0 was.before.number.0 were.before.number.0
      (r.sealed.threads.rise i j was.before were.before lower was.at were.at) was.number were.number
    where
      less_moved : (a b c d : ℕ) → c < d → a ≡ c → b ≡ d → a < b
      less_moved a b c d less left right = omega arith

  segments_before : (e : Thread) (s : Segment) → Contains (after r).threads e → Contains e.segments s
      → (1 ≤ s.shared.number.0) × (s.shared.number.0 < m.next_segment)
  segments_before e s on of =
      let at = place_of (after r).threads e on in
      let there = place_of e.segments s of in
      let was = was_segment at.0 there.0 e s at.1 there.1 in
      subst (λ (n : SegmentNo). (1 ≤ n.0) × (n.0 < m.next_segment)) (sym was.number)
      (r.sealed.threads.segments_before was.thread was.before (Contains-at m.threads at.0 was.thread was.at)
      (Contains-at was.thread.segments there.0 was.before was.stood_there))

  segments_differ : (i j k l : ℕ) (a b : Thread) (s u : Segment) → slice_get (after r).threads i ≡ Some a
      → slice_get (after r).threads j ≡ Some b → slice_get a.segments k ≡ Some s → slice_get b.segments l ≡ Some u
      → s.shared.number ≡ u.shared.number → (i ≡ j) × (k ≡ l)
  segments_differ i j k l a b s u at bt st ut same =
      let was = was_segment i k a s at st in
      let were = was_segment j l b u bt ut in
      r.sealed.threads.segments_differ i j k l was.thread were.thread was.before were.before was.at were.at was.stood_there were.stood_there
      (sym was.number ∙ same ∙ were.number)

  pub threads_sealed : AreSealedThreads (after r)
  threads_sealed = record {
    segments = each_thread (λ e. SegmentsFit (after r) e.segments)
        (own_fit m t r r.place.lower r.place.segment
        (subst (SegmentsFit m) r.place.are_segments (r.sealed.threads.segments r.place.thread (thread_there m t r))))
        (λ i e differ at. others_fit m t r e.segments (r.sealed.threads.segments e (Contains-at m.threads i e at)));
    rise = rising;
    before = each_thread (λ e. (1 ≤ e.number.0) × (e.number.0 < m.next_thread)) (r.sealed.threads.before r.place.thread (thread_there m t r))
        (λ i e differ at. r.sealed.threads.before e (Contains-at m.threads i e at));
    first_numbers = r.sealed.threads.first_numbers;
    segments_before = segments_before;
    segments_differ = segments_differ;
  }
