-- A thread begins, with one segment of a live domain and one frame that runs: the machine with it is sealed, and its calls are answered.
use Rattle.std.proofs.Common.{inl, inr, ◌≡◌, ◌≢◌, ℕ, suc, ◌+◌, ◌-◌, ◌==◌, ◌<◌, ◌≤◌, ◌⊎◌, Bool, true, false, cond, List, [], ◌∷◌, length, sum_by, Contains, Option, Some, None, slice_get, refl, sym, ap, subst, ◌∙◌, arith, eq-eqb, ne_eqb}
use Rattle.std.specs.Prelude.{count_by}
use Rattle.std.proofs.lemmas.Bool.{cases_eq, eqb-true}
use Rattle.std.proofs.lemmas.List.Elements.{Contains-push_cases}
use Rattle.std.proofs.lemmas.List.Sums.{sum_by-cons, sum_by_push}
use Rattle.std.proofs.lemmas.Option.{same_Some}
use Rattle.jk_model.specs.declared.identifiers.ClassId.{ClassId}
use Rattle.jk_model.specs.declared.identifiers.DomainId.{DomainId}
use Rattle.jk_model.specs.declared.identifiers.SegmentNo.{SegmentNo}
use Rattle.jk_model.specs.declared.identifiers.ThreadNo.{ThreadNo}
use Rattle.jk_model_frames.specs.Frames.{FrameState, frames_chunks, head_chunks}
use Rattle.jk_model_domains.specs.declared.states.ClassState.{ClassState}
use Rattle.jk_model_domains.specs.declared.states.ClassState.TheVariants as State
use Rattle.jk_model_domains.specs.OwnStates.{OwnState, state_of}
use Rattle.jk_model_heaps.specs.Workings.{Inside}
use Rattle.jk_model_sealing.specs.ClassesInProgress.{initialises, progress_by}
use Rattle.jk_model_sealing.specs.FittingFrames.{FitsAsTop}
use Rattle.jk_model_sealing.specs.SealedRuns.{AreSealedFrames}
use Rattle.jk_model_machine_state.specs.Machines.{DomainState, IsLiveThread, Machine, Segment, Thread, chunks_of, chunks_used, free_chunks, started_in}
use Rattle.jk_model_machine_state.specs.Places.{LiveDomain, first_segment}
use Rattle.jk_model_openings.specs.PoolsOfMachines.{heap_pool, stack_pool}
use Rattle.jk_model_runs.specs.AnsweredCalls.{AreCallsAnswered, SegmentsAnswer}
use Rattle.jk_model_runs.specs.Sealed.{AreSealedCapabilities, AreSealedDomains, AreSealedInitialisers, AreSealedNames, AreSealedTasks, AreSealedThreads, CallerFits, IsSealed, IsSealedPool, IsSealedSegment, SegmentsFit, TopFits, initialisers_of, segment_initialisers, surroundings}
use Rattle.jk_model_runs.specs.Starts.{with_new_thread}
use Rattle.list_lemmas.proofs.FoundItems.{Finds, finds}
use Rattle.list_lemmas.proofs.ItemsByPlace.{slice_get-push_cases}
use Rattle.list_lemmas.proofs.ItemsOfLists.{Contains-at, only_in, place_of}
use Rattle.machine_laws.proofs.DomainsAfterRuns.{costs_elsewhere, costs_here}
use Rattle.machine_laws.proofs.PushedItems.{found_in_front, passes_pushed}
use Rattle.machine_laws.proofs.RunningSegmentsFit.{frames_weaker}

-- a live domain in which a thread may begin with this frame
pub record MayBegin (m : Machine) : Type 0 where
  pub sealed : IsSealed m
  pub domain : DomainState
  pub at : slice_get m.domains domain.number.0 ≡ Some domain
  pub inside : Inside
  pub lives : domain.inside ≡ Some inside
  pub frame : FrameState
  pub frames : AreSealedFrames (surroundings m domain) (FitsAsTop m.classes inside.heap) inside.heap (frame ∷ [])
  pub initialises : frame.head.initialises ≡ None
  pub threads : started_in m domain.number < domain.quotas.threads
  pub chunks : 1 + head_chunks frame.head ≤ free_chunks m domain

abbrev pub begun : {m : Machine} → MayBegin m → Machine
begun {m = m} b = with_new_thread b.domain.number b.frame m

abbrev pub first : {m : Machine} → MayBegin m → Segment
first {m = m} b = first_segment m b.domain.number b.frame

abbrev pub new_thread : {m : Machine} → MayBegin m → Thread
new_thread {m = m} b = record { number = record { 0 = m.next_thread }; domain = b.domain.number; segments = first b ∷ [] }

-- ---- Sums of one.

adds_if : (b : Bool) → b ≡ true → ◌≡◌ {A = ℕ} (cond b 1 0) 1
adds_if true e = refl
adds_if false e = absurd cc

adds_none_if : (b : Bool) → b ≡ false → ◌≡◌ {A = ℕ} (cond b 1 0) 0
adds_none_if true e = absurd cc
adds_none_if false e = refl

sum_of_one : {X : Type 0} (f : X → ℕ) (x : X) → sum_by f (x ∷ []) ≡ f x
sum_of_one f x = sum_by-cons f x [] ∙ omega arith

nothing_if : (b : Bool) (n : ℕ) → n ≡ 0 → cond b n 0 ≡ 0
nothing_if true n e = e
nothing_if false n e = refl

abbrev initialises_by : ClassId → Option ClassId → Bool
initialises_by c (Some d) = d.0 == c.0
initialises_by c None = false

taken_by : ThreadNo → ClassState → ℕ
taken_by t (State.InProgress by) = cond (by.0 == t.0) 1 0
taken_by t state = 0

module _ {m : Machine} (b : MayBegin m) where
  abbrev pub home : LiveDomain (begun b) b.domain.number
  home = record { domain = b.domain; is_domain = b.at; numbered = refl; inside = b.inside; is_inside = b.lives }

  -- ---- Domains.

  -- what holds of the domain, and of each of another number, holds of each
  each_domain : (P : DomainState → Type 0) → P b.domain → ((e : DomainState) → Contains m.domains e → b.domain.number.0 ≢ e.number.0 → P e)
      → (e : DomainState) → Contains m.domains e → P e
  each_domain P here elsewhere e on = elim (cases_eq b.domain.number.0 e.number.0) [
    | inl same ↦
        let place = place_of m.domains e on in
        let number : e.number.0 ≡ place.0 = b.sealed.domains.numbered place.0 e place.1 in
        subst P (same_Some b.domain e (sym b.at ∙ ap (slice_get m.domains) (same ∙ number) ∙ place.1)) here
    | inr differ ↦ elsewhere e on differ
  ]

  chunks_now : (n : DomainId) → chunks_used (begun b) n ≡ chunks_used m n + chunks_of n (first b)
  chunks_now n =
      sum_by_push (λ (thread : Thread). sum_by (chunks_of n) thread.segments) m.threads (new_thread b)
      ∙ ap (λ (k : ℕ). chunks_used m n + k) (sum_of_one (chunks_of n) (first b))

  one_frame : frames_chunks (b.frame ∷ []) ≡ head_chunks b.frame.head
  one_frame = sum_of_one (λ (f : FrameState). head_chunks f.head) b.frame

  chunks_within : (used now cost all quota : ℕ) → now ≡ used + (1 + all) → all ≡ cost → 1 + cost ≤ quota - used → now ≤ quota
  chunks_within used now cost all quota is one room = omega arith

  chunks_here : chunks_used (begun b) b.domain.number ≤ b.domain.quotas.chunks
  chunks_here =
      let n = b.domain.number in
      chunks_within (chunks_used m n) (chunks_used (begun b) n) (head_chunks b.frame.head) (frames_chunks (b.frame ∷ [])) b.domain.quotas.chunks
      (chunks_now n ∙ ap (λ (k : ℕ). chunks_used m n + k) (costs_here n (first b) refl)) one_frame b.chunks

  same_sum : (used now cost quota : ℕ) → now ≡ used + cost → cost ≡ 0 → used ≤ quota → now ≤ quota
  same_sum used now cost quota is none within = omega arith

  chunks_elsewhere : (e : DomainState) → Contains m.domains e → b.domain.number.0 ≢ e.number.0 → chunks_used (begun b) e.number ≤ e.quotas.chunks
  chunks_elsewhere e on differ =
      same_sum (chunks_used m e.number) (chunks_used (begun b) e.number) (chunks_of e.number (first b)) e.quotas.chunks (chunks_now e.number)
      (costs_elsewhere e.number (first b) differ) (b.sealed.domains.chunks e on)

  started_now : (n : DomainId) → started_in (begun b) n ≡ started_in m n + cond (b.domain.number.0 == n.0) 1 0
  started_now n = passes_pushed (λ (thread : Thread). thread.domain.0 == n.0) m.threads (new_thread b)

  one_more : (old now more quota : ℕ) → now ≡ old + more → more ≡ 1 → old < quota → now ≤ quota
  one_more old now more quota is one room = omega arith

  started_here : started_in (begun b) b.domain.number ≤ b.domain.quotas.threads
  started_here =
      let n = b.domain.number in
      one_more (started_in m n) (started_in (begun b) n) (cond (n.0 == n.0) 1 0) b.domain.quotas.threads (started_now n)
      (adds_if (n.0 == n.0) (eq-eqb n.0 n.0 refl)) b.threads

  started_elsewhere : (e : DomainState) → Contains m.domains e → b.domain.number.0 ≢ e.number.0 → started_in (begun b) e.number ≤ e.quotas.threads
  started_elsewhere e on differ =
      same_sum (started_in m e.number) (started_in (begun b) e.number) (cond (b.domain.number.0 == e.number.0) 1 0) e.quotas.threads
      (started_now e.number) (adds_none_if (b.domain.number.0 == e.number.0) (ne_eqb b.domain.number.0 e.number.0 differ))
      (b.sealed.domains.started e on)

  begun_domains : AreSealedDomains (begun b)
  begun_domains = let h = b.sealed.domains in record {
    numbered = h.numbered;
    few = h.few;
    names_differ = h.names_differ;
    insides = h.insides;
    chunks = each_domain (λ e. chunks_used (begun b) e.number ≤ e.quotas.chunks) chunks_here chunks_elsewhere;
    budgets = h.budgets;
    started = each_domain (λ e. started_in (begun b) e.number ≤ e.quotas.threads) started_here started_elsewhere;
  }

  begun_heaps : IsSealedPool (heap_pool (begun b)) (begun b)
  begun_heaps = record { placed = b.sealed.heap_places.placed; apart = b.sealed.heap_places.apart }

  begun_stacks : IsSealedPool (stack_pool (begun b)) (begun b)
  begun_stacks = record { placed = b.sealed.stack_places.placed; apart = b.sealed.stack_places.apart }

  begun_capabilities : AreSealedCapabilities (begun b)
  begun_capabilities = let h = b.sealed.capabilities in record {
    owner = h.owner;
    count = h.count;
    chained = h.chained;
    within = h.within;
    few = h.few;
    remote = h.remote;
    targets = h.targets;
  }

  abbrev home_still : (n : DomainId) → LiveDomain m n → LiveDomain (begun b) n
  home_still n h = record { domain = h.domain; is_domain = h.is_domain; numbered = h.numbered; inside = h.inside; is_inside = h.is_inside }

  begun_names : AreSealedNames (begun b)
  begun_names = let h = b.sealed.names in record {
    given_out = h.given_out;
    binders = λ n bound. home_still n.binder (h.binders n bound);
    short = h.short;
    differ = h.differ;
    within = h.within;
  }

  -- ---- Threads.

  segment_still : (Top : Inside → FrameState → Type 0) (s : Segment) → IsSealedSegment m Top s → IsSealedSegment (begun b) Top s
  segment_still Top s h = record { home = home_still s.shared.domain h.home; frames = h.frames }

  segments_still : (segments : List Segment) → SegmentsFit m segments → SegmentsFit (begun b) segments
  segments_still [] h = h
  segments_still (s ∷ []) h = segment_still (λ inside f. TopFits m inside s f) s h
  segments_still (s ∷ above ∷ more) h = (segment_still (CallerFits m) s h.0, segments_still (above ∷ more) h.1)

  first_fits : SegmentsFit (begun b) (first b ∷ [])
  first_fits = record {
    home = home;
    frames = frames_weaker (surroundings m b.domain) b.inside.heap (FitsAsTop m.classes b.inside.heap) (TopFits m b.inside (first b)) (λ f top. inl top)
        (b.frame ∷ []) b.frames;
  }

  each_thread : (P : Thread → Type 0) → P (new_thread b) → ((e : Thread) → Contains m.threads e → P e)
      → (e : Thread) → Contains (begun b).threads e → P e
  each_thread P new old e on = elim (Contains-push_cases m.threads (new_thread b) e on) [
    | inl there ↦ old e there
    | inr same ↦ subst P same new
  ]

  -- which thread stands where
  abbrev Placed : ℕ → Thread → Type 0
  Placed i e = ((i < length m.threads) × (slice_get m.threads i ≡ Some e)) ⊎ ((i ≡ length m.threads) × (new_thread b ≡ e))

  placed : (i : ℕ) (e : Thread) → slice_get (begun b).threads i ≡ Some e → Placed i e
  placed i e at = slice_get-push_cases m.threads (new_thread b) e i at

  number_before : (i : ℕ) (e : Thread) → slice_get m.threads i ≡ Some e → e.number.0 < m.next_thread
  number_before i e at = (b.sealed.threads.before e (Contains-at m.threads i e at)).1

  rising : (i j : ℕ) (x y : Thread) → i < j → Placed i x → Placed j y → x.number.0 < y.number.0
  rising i j x y lower (inl old) (inl other) = b.sealed.threads.rise i j x y lower old.1 other.1
  rising i j x y lower (inl old) (inr last) =
      let number : m.next_thread ≡ y.number.0 = ap (λ (e : Thread). e.number.0) last.1 in
      omega (arith, number_before i x old.1, number)
  rising i j x y lower (inr last) (inl other) = absurd (omega (arith, lower, last.0, other.0))
  rising i j x y lower (inr last) (inr also) = absurd (omega (arith, lower, last.0, also.0))

  -- which segment stands where, of which thread
  segment_before : (i k : ℕ) (e : Thread) (s : Segment) → slice_get m.threads i ≡ Some e → slice_get e.segments k ≡ Some s
      → s.shared.number.0 < m.next_segment
  segment_before i k e s at there =
      (b.sealed.threads.segments_before e s (Contains-at m.threads i e at) (Contains-at e.segments k s there)).1

  is_first : (k : ℕ) (e : Thread) (s : Segment) → new_thread b ≡ e → slice_get e.segments k ≡ Some s → (k ≡ 0) × (first b ≡ s)
  is_first k e s same at =
      let there : slice_get (first b ∷ []) k ≡ Some s = ap (λ (x : Thread). slice_get x.segments k) same ∙ at in
      elim (slice_get-push_cases [] (first b) s k there) [ inl never ↦ absurd (omega (arith, never.0)) | inr is ↦ is ]

  segments_apart : (i j k l : ℕ) (x y : Thread) (s r : Segment) → Placed i x → Placed j y → slice_get x.segments k ≡ Some s
      → slice_get y.segments l ≡ Some r → s.shared.number ≡ r.shared.number → (i ≡ j) × (k ≡ l)
  segments_apart i j k l x y s r (inl old) (inl other) st rt same =
      b.sealed.threads.segments_differ i j k l x y s r old.1 other.1 st rt same
  segments_apart i j k l x y s r (inl old) (inr last) st rt same =
      let low = segment_before i k x s old.1 st in
      let new : m.next_segment ≡ r.shared.number.0 = ap (λ (e : Segment). e.shared.number.0) (is_first l y r last.1 rt).1 in
      let number : s.shared.number.0 ≡ r.shared.number.0 = ap (λ (n : SegmentNo). n.0) same in
      absurd (omega (arith, low, new, number))
  segments_apart i j k l x y s r (inr last) (inl other) st rt same =
      let low = segment_before j l y r other.1 rt in
      let new : m.next_segment ≡ s.shared.number.0 = ap (λ (e : Segment). e.shared.number.0) (is_first k x s last.1 st).1 in
      let number : s.shared.number.0 ≡ r.shared.number.0 = ap (λ (n : SegmentNo). n.0) same in
      absurd (omega (arith, low, new, number))
  segments_apart i j k l x y s r (inr last) (inr also) st rt same =
      (last.0 ∙ sym also.0, (is_first k x s last.1 st).0 ∙ sym (is_first l y r also.1 rt).0)

  later : (k n : ℕ) → (1 ≤ k) × (k < n) → (1 ≤ k) × (k < suc n)
  later k n h = (h.0, omega (arith, h.1))

  begun_threads : AreSealedThreads (begun b)
  begun_threads = let h = b.sealed.threads in record {
    segments = each_thread (λ e. SegmentsFit (begun b) e.segments) first_fits (λ e on. segments_still e.segments (h.segments e on));
    rise = λ i j x y lower at bt. rising i j x y lower (placed i x at) (placed j y bt);
    before = each_thread (λ e. (1 ≤ e.number.0) × (e.number.0 < suc m.next_thread)) (h.first_numbers.0, omega arith)
        (λ e on. later e.number.0 m.next_thread (h.before e on));
    first_numbers = (omega arith, omega arith);
    segments_before = λ thread s on.
        each_thread (λ e. Contains e.segments s → (1 ≤ s.shared.number.0) × (s.shared.number.0 < suc m.next_segment))
        (λ of. subst (λ (x : Segment). (1 ≤ x.shared.number.0) × (x.shared.number.0 < suc m.next_segment)) (only_in s (first b) (first b ∷ []) refl of)
        (h.first_numbers.1, omega arith))
        (λ e there of. later s.shared.number.0 m.next_segment (h.segments_before e s there of)) thread on;
    segments_differ = λ i j k l x y s r at bt st rt same. segments_apart i j k l x y s r (placed i x at) (placed j y bt) st rt same;
  }

  -- ---- Tasks.

  begun_tasks : AreSealedTasks (begun b)
  begun_tasks = let h = b.sealed.tasks in record {
    given_out = λ d inside a n on is there. later n.0 m.next_segment (h.given_out d inside a n on is there);
    own = λ d inside a thread s on is there.
        each_thread (λ e. Contains e.segments s → s.shared.domain ≡ d.number)
        (λ of.
        let number : m.next_segment ≡ s.shared.number.0 =
        ap (λ (x : Segment). x.shared.number.0) (only_in s (first b) (first b ∷ []) refl of) in
        let given = h.given_out d inside a s.shared.number on is there in
        absurd (omega (arith, number, given.1)))
        (λ e old of. h.own d inside a e s on is there old of) thread;
  }

  -- ---- Classes in progress.

  number_of_live : (u : ThreadNo) → IsLiveThread m u → u.0 < m.next_thread
  number_of_live u (e, is) =
      let at = subst (Finds (λ (x : Thread). x.number.0 == u.0) m.threads) is (finds (λ (x : Thread). x.number.0 == u.0) m.threads) in
      let number : e.number.0 ≡ u.0 = eqb-true e.number.0 u.0 at.2 in
      omega (arith, number_before at.0 e at.1, number)

  lives_still : (u : ThreadNo) → IsLiveThread m u → IsLiveThread (begun b) u
  lives_still u (e, is) = (e, found_in_front (λ (x : Thread). x.number.0 == u.0) m.threads (new_thread b ∷ []) e is)

  takes_nothing : (own : OwnState) (c : ClassId) → ((u : ThreadNo) → state_of own c ≡ State.InProgress u → u.0 < m.next_thread)
      → (s : ClassState) → state_of own c ≡ s → taken_by (record { 0 = m.next_thread }) s ≡ 0
  unfolding taken_by
  takes_nothing own c low (State.InProgress by) is =
      let before = low by is in adds_none_if (by.0 == m.next_thread) (ne_eqb by.0 m.next_thread (λ same. omega (arith, before, same)))
  takes_nothing own c low State.Untouched is = refl
  takes_nothing own c low State.Done is = refl
  takes_nothing own c low State.Broken is = refl

  none_in_progress : (own : OwnState) (c : ClassId) → ((u : ThreadNo) → state_of own c ≡ State.InProgress u → u.0 < m.next_thread)
      → progress_by (record { 0 = m.next_thread }) own c ≡ 0
  unfolding taken_by
  none_in_progress own c low = takes_nothing own c low (state_of own c) refl

  no_initialiser : (c : ClassId) → count_by (initialises c) (b.frame ∷ []) ≡ 0
  no_initialiser c =
      sum_of_one (λ (f : FrameState). cond (initialises c f) 1 0) b.frame
      ∙ adds_none_if (initialises c b.frame) (ap (initialises_by c) b.initialises)

  initialises_nothing : (n : DomainId) (c : ClassId) → initialisers_of n c (new_thread b) ≡ 0
  initialises_nothing n c =
      sum_of_one (segment_initialisers n c) (first b)
      ∙ nothing_if (b.domain.number.0 == n.0) (count_by (initialises c) (b.frame ∷ [])) (no_initialiser c)

  begun_initialisers : AreSealedInitialisers (begun b)
  begun_initialisers = let h = b.sealed.initialisers in record {
    one = λ thread d inside c on there is.
        each_thread (λ e. initialisers_of d.number c e ≡ progress_by e.number inside.own c)
        (initialises_nothing d.number c
        ∙ sym (none_in_progress inside.own c (λ u state. number_of_live u (h.live d inside c u there is state))))
        (λ e old. h.one e d inside c old there is) thread on;
    live = λ d inside c t on is state. lives_still t (h.live d inside c t on is state);
  }

  -- ---- All of it.

  pub begun_sealed : IsSealed (begun b)
  begun_sealed = record {
    domains = begun_domains;
    heap_places = begun_heaps;
    stack_places = begun_stacks;
    capabilities = begun_capabilities;
    names = begun_names;
    threads = begun_threads;
    tasks = begun_tasks;
    initialisers = begun_initialisers;
  }

  pub begun_answered : AreCallsAnswered m → AreCallsAnswered (begun b)
  begun_answered h = record {
    segments = each_thread (λ e. SegmentsAnswer m.classes e.segments) (b.initialises, tt) h.segments;
  }
