-- Where a domain is opened, the segments of all threads stay sealed, and none is of the new domain.
use Rattle.std.proofs.Common.{◌≡◌, ◌≢◌, ℕ, ◌==◌, ◌<◌, ◌≤◌, ◌⊎◌, Bool, false, cond, List, [], ◌∷◌, length, filter, Contains, Option, Some, None, inl, inr, refl, sym, ap, subst, ◌∙◌, arith}
use Rattle.std.specs.Prelude.{if◌then◌else◌, sum_by}
use Rattle.std.specs.List.{AllByRecursion}
use Rattle.std.specs.Option.{option_map_or}
use Rattle.std.proofs.lemmas.Bool.{cases_Bool, eqb-true}
use Rattle.std.proofs.lemmas.List.Sums.{sum_by-cons}
use Rattle.std.proofs.lemmas.Option.{same_Some, slice_get_within}
use Rattle.list_lemmas.proofs.FoundItems.{Finds, finds}
use Rattle.list_lemmas.proofs.ItemsOfLists.{Contains-at, Contains-here, Contains-there, each-of}
use Rattle.jk_model.specs.declared.identifiers.ClassId.{ClassId}
use Rattle.jk_model.specs.declared.identifiers.SegmentNo.{SegmentNo}
use Rattle.jk_model.specs.declared.identifiers.ThreadNo.{ThreadNo}
use Rattle.jk_model_classes.specs.Worlds.{WorldRecord}
use Rattle.jk_model_frames.specs.Frames.{FrameState}
use Rattle.jk_model_domains.specs.declared.states.ClassState.{ClassState}
use Rattle.jk_model_domains.specs.declared.states.ClassState.TheVariants as State
use Rattle.jk_model_domains.specs.Objects.{Task}
use Rattle.jk_model_domains.specs.OwnStates.{ClassPart, OwnState, part_of, state_of}
use Rattle.jk_model_heaps.specs.Workings.{Inside}
use Rattle.jk_model_machine_state.specs.Machines.{IsLiveThread, Machine, Segment, Thread, chunks_of, chunks_used, started_in}
use Rattle.jk_model_machine_state.specs.Places.{LiveDomain}
use Rattle.jk_model_openings.specs.OpenedDomains.{Admission}
use Rattle.jk_model_runs.specs.Sealed.{AreSealedInitialisers, AreSealedTasks, AreSealedThreads, CallerFits, IsSealedSegment, SegmentsFit, TopFits, initialisers_of, segment_initialisers, surroundings}
use Rattle.jk_model_sealing.specs.ClassesInProgress.{progress_by}
use Rattle.machine_laws.proofs.OpenedMachines.{IsOpened, d, each_domain, home_on, home_still, new, new_there, widens}
use Rattle.machine_laws.proofs.OpeningsSealed.{no_task_yet}
use Rattle.machine_laws.proofs.WidenedSurroundings.{call_widened, frames_widened, top_widened}

-- ---- Nothing of nothing.

sum_zero : {X : Type 0} (f : X → ℕ) (xs : List X) → ((x : X) → Contains xs x → f x ≡ 0) → sum_by f xs ≡ 0
sum_zero f [] h = refl
sum_zero f (x ∷ xs) h =
    let here : f x ≡ 0 = h x (Contains-here x xs) in
    let later : sum_by f xs ≡ 0 = sum_zero f xs (λ y on. h y (Contains-there y x xs on)) in
    sum_by-cons f x xs ∙ omega (arith, here, later)

pub none_pass : {X : Type 0} (p : X → Bool) (xs : List X) → ((x : X) → Contains xs x → p x ≡ false) → length (filter p xs) ≡ 0
none_pass p [] h = refl
none_pass p (x ∷ xs) h =
    let later : length (filter p xs) ≡ 0 = none_pass p xs (λ y on. h y (Contains-there y x xs on)) in
    ap (λ (b : Bool). length (cond b (x ∷ filter p xs) (filter p xs))) (h x (Contains-here x xs)) ∙ later

pub fails : (n k : ℕ) → n < k → n == k ≡ false
fails n k low = elim (cases_Bool (n == k)) [
  | inl same ↦ (let e : n ≡ k = eqb-true n k same in absurd (omega (arith, e, low)))
  | inr differ ↦ differ
]

-- ---- By which thread a class is in progress.

abbrev counted : ThreadNo → ClassState → ℕ
counted t (State.InProgress by) = if by.0 == t.0 then 1 else 0
counted t state = 0

abbrev of_part : Option ClassPart → ClassState
of_part o = option_map_or (λ (e : ClassPart). e.state) o State.Done

module _ (own : OwnState) (untouched : (e : ClassPart) → Contains own.classes e → e.state ≡ State.Untouched) (c : ClassId) where
  calm_by : (o : Option ClassPart) → part_of own c ≡ o → (of_part o ≡ State.Done) ⊎ (of_part o ≡ State.Untouched)
  calm_by None part = inl refl
  calm_by (Some e) part =
      let at = subst (Finds (λ (x : ClassPart). x.class.0 == c.0) own.classes) part (finds (λ (x : ClassPart). x.class.0 == c.0) own.classes) in
      inr (untouched e (Contains-at own.classes at.0 e at.1))

  calm : (state_of own c ≡ State.Done) ⊎ (state_of own c ≡ State.Untouched)
  calm = calm_by (part_of own c) refl

  no_progress : (t : ThreadNo) → progress_by t own c ≡ 0
  no_progress t = elim calm [ inl done ↦ ap (counted t) done | inr begins ↦ ap (counted t) begins ]

  not_in_progress : (t : ThreadNo) → state_of own c ≢ State.InProgress t
  not_in_progress t is = elim calm [
    | inl done ↦ (let e : State.Done ≡ State.InProgress t = sym done ∙ is in absurd cc)
    | inr begins ↦ (let e : State.Untouched ≡ State.InProgress t = sym begins ∙ is in absurd cc)
  ]

-- ---- Segments.

module _ {m : Machine} {w : WorldRecord} {a : Admission} {inside : Inside} (o : IsOpened m w a inside) where
  segment_still : (Top Then : Inside → FrameState → Type 0) (s : Segment)
      → ((h : LiveDomain m s.shared.domain) (f : FrameState) → Top h.inside f → Then h.inside f) → IsSealedSegment m Top s
      → IsSealedSegment (new o) Then s
  segment_still Top Then s last h = record {
    home = home_still o s.shared.domain h.home;
    frames =
        frames_widened (surroundings m h.home.domain) (surroundings (new o) h.home.domain) (widens o h.home.domain) o.sound.codes
        (o.sound.tables h.home.domain (home_on o s.shared.domain h.home)) (Top h.home.inside) (Then h.home.inside) (last h.home) h.home.inside.heap
        s.frames h.frames;
  }

  top_still : (s : Segment) (h : LiveDomain m s.shared.domain) (f : FrameState) → TopFits m h.inside s f → TopFits (new o) h.inside s f
  top_still s h f (inl top) =
      inl (top_widened (surroundings m h.domain) (surroundings (new o) h.domain) (widens o h.domain) o.sound.codes
      (o.sound.tables h.domain (home_on o s.shared.domain h)) h.inside.heap f top)
  top_still s h f (inr (revoked, call)) =
      inr (
        revoked,
        call_widened (surroundings m h.domain) (surroundings (new o) h.domain) (widens o h.domain) o.sound.codes
            (o.sound.tables h.domain (home_on o s.shared.domain h)) h.inside.heap f call,
      )

  caller_still : (s : Segment) (h : LiveDomain m s.shared.domain) (f : FrameState) → CallerFits m h.inside f → CallerFits (new o) h.inside f
  caller_still s h f call =
      call_widened (surroundings m h.domain) (surroundings (new o) h.domain) (widens o h.domain) o.sound.codes
      (o.sound.tables h.domain (home_on o s.shared.domain h)) h.inside.heap f call

  segments_still : (segments : List Segment) → SegmentsFit m segments → SegmentsFit (new o) segments
  segments_still [] h = absurd h
  segments_still (s ∷ []) h = segment_still (λ i f. TopFits m i s f) (λ i f. TopFits (new o) i s f) s (top_still s) h
  segments_still (s ∷ above ∷ more) h =
      (segment_still (CallerFits m) (CallerFits (new o)) s (caller_still s) h.0, segments_still (above ∷ more) h.1)

  pub opened_threads : AreSealedThreads (new o)
  opened_threads = let h = o.sealed.threads in record {
    segments = λ thread on. segments_still thread.segments (h.segments thread on);
    rise = h.rise;
    before = h.before;
    first_numbers = h.first_numbers;
    segments_before = h.segments_before;
    segments_differ = h.segments_differ;
  }

  -- ---- None is of the new domain.

  abbrev IsLow : Segment → Type 0
  IsLow s = s.shared.domain.0 < length m.domains

  low : (s : Segment) → LiveDomain m s.shared.domain → IsLow s
  low s h = slice_get_within m.domains s.shared.domain.0 h.domain h.is_domain

  lows : (segments : List Segment) → SegmentsFit m segments → AllByRecursion IsLow segments
  lows [] h = tt
  lows (s ∷ []) h = (low s h.home, tt)
  lows (s ∷ above ∷ more) h = (low s h.0.home, lows (above ∷ more) h.1)

  of_another : (thread : Thread) (s : Segment) → Contains m.threads thread → Contains thread.segments s → s.shared.domain.0 == (d o).number.0 ≡ false
  of_another thread s on has =
      fails s.shared.domain.0 (d o).number.0 (each-of IsLow thread.segments s (lows thread.segments (o.sealed.threads.segments thread on)) has)

  no_initialisers : (thread : Thread) (c : ClassId) → Contains m.threads thread → initialisers_of (d o).number c thread ≡ 0
  no_initialisers thread c on =
      sum_zero (segment_initialisers (d o).number c) thread.segments
      (λ s has. rw (of_another thread s on has) refl)

  pub no_chunks : chunks_used m (d o).number ≡ 0
  no_chunks =
      sum_zero (λ (thread : Thread). sum_by (chunks_of (d o).number) thread.segments) m.threads
      (λ thread on. sum_zero (chunks_of (d o).number) thread.segments (λ s has. rw (of_another thread s on has) refl))

  pub none_started : started_in m (d o).number ≡ 0
  none_started =
      none_pass (λ (thread : Thread). thread.domain.0 == (d o).number.0) m.threads
      (λ thread on. fails thread.domain.0 (d o).number.0 (o.grows.started_there thread on))

  -- ---- Tasks, and classes in progress.

  pub opened_tasks : AreSealedTasks (new o)
  opened_tasks = record {
    given_out = λ e i x n on.
        each_domain o (λ e. e.inside ≡ Some i → Contains i.heap (record { name = x; object = Task n }) → (1 ≤ n.0) × (n.0 < m.next_segment))
        (λ e was. o.sealed.tasks.given_out e i x n was) (λ is has. absurd (no_task i x n is has)) e on;
    own = λ e i x thread s on.
        each_domain o (λ e. e.inside ≡ Some i → Contains i.heap (record { name = x; object = Task s.shared.number }) → Contains m.threads thread
        → Contains thread.segments s → s.shared.domain ≡ e.number)
        (λ e was. o.sealed.tasks.own e i x thread s was) (λ is has on_thread in_thread. absurd (no_task i x s.shared.number is has)) e on;
  }
    where
      no_task : (i : Inside) (x : ℕ) (n : SegmentNo) → Some inside ≡ Some i → Contains i.heap (record { name = x; object = Task n }) → ⊥
      no_task i x n is has =
          no_task_yet (surroundings (new o) (d o)) a.quotas.heap inside o.sound_then.codes (o.sound_then.tables (d o) (new_there o)) o.opening x n
          (subst (λ (y : Inside). Contains y.heap (record { name = x; object = Task n })) (same_Some i inside (sym is)) has)

  pub opened_initialisers : AreSealedInitialisers (new o)
  opened_initialisers = record {
    one = λ thread e i c on_thread on.
        each_domain o (λ e. e.inside ≡ Some i → initialisers_of e.number c thread ≡ progress_by thread.number i.own c)
        (λ e was. o.sealed.initialisers.one thread e i c on_thread was)
        (λ is. no_initialisers thread c on_thread
        ∙ sym (ap (λ (y : Inside). progress_by thread.number y.own c) (same_Some i inside (sym is))
        ∙ no_progress inside.own o.opening.own.untouched c thread.number)) e on;
    live = λ e i c t on.
        each_domain o (λ e. e.inside ≡ Some i → state_of i.own c ≡ State.InProgress t → IsLiveThread m t)
        (λ e was. o.sealed.initialisers.live e i c t was)
        (λ is runs. absurd (not_in_progress inside.own o.opening.own.untouched c t
        (ap (λ (y : Inside). state_of y.own c) (same_Some inside i is) ∙ runs))) e on;
  }
