-- A thread that initialises no class is gone: the machine is sealed, and its calls are answered where those of the other threads were.
use Rattle.std.proofs.Common.{◌≡◌, ◌≢◌, ℕ, ◌<◌, ◌≤◌, ◌==◌, inl, inr, Bool, true, not, List, [], ◌∷◌, find, sum_by, Contains, Option, Some, None, slice_get, sym, ap, subst, ◌∙◌, arith, eq-eqb, ne_eqb}
use Rattle.std.proofs.lemmas.Bool.{cases_eq, cases_lt, eqb-true}
use Rattle.std.proofs.lemmas.Option.{same_Some}
use Rattle.jk_model.specs.declared.identifiers.ClassId.{ClassId}
use Rattle.jk_model.specs.declared.identifiers.DomainId.{DomainId}
use Rattle.jk_model.specs.declared.identifiers.ThreadNo.{ThreadNo}
use Rattle.jk_model_domains.specs.declared.states.ClassState.TheVariants as State
use Rattle.jk_model_domains.specs.OwnStates.{state_of}
use Rattle.jk_model_frames.specs.Frames.{FrameState}
use Rattle.jk_model_heaps.specs.Workings.{Inside}
use Rattle.jk_model_machine_state.specs.Machines.{DomainState, IsLiveThread, Machine, Segment, Thread, chunks_of, chunks_used, started_in, thread_numbered, without_thread}
use Rattle.jk_model_machine_state.specs.Places.{LiveDomain}
use Rattle.jk_model_runs.specs.AnsweredCalls.{AreCallsAnswered, SegmentsAnswer}
use Rattle.jk_model_runs.specs.Sealed.{AreSealedDomains, AreSealedThreads, CallerFits, IsSealed, IsSealedSegment, SegmentsFit, TopFits, initialisers_of}
use Rattle.list_lemmas.proofs.FoundItems.{Finds, finds}
use Rattle.list_lemmas.proofs.ItemsOfLists.{Contains-at}
use Rattle.list_lemmas.proofs.TestsAndOrders.{so_not}
use Rattle.machine_laws.proofs.FilteredItems.{fewer_pass, filtered_from, filtered_passes, found_still, place_from, stand_in_order, sum_less}
use Rattle.machine_laws.proofs.InitialisersAfterRuns.{progress_is}

-- the thread of a number is there, and has it
pub thread_found : (m : Machine) (u : ThreadNo) (e : Thread) → thread_numbered m u ≡ Some e
    → Contains m.threads e × (e.number.0 ≡ u.0)
thread_found m u e is = by (find (λ (x : Thread). x.number.0 == u.0) m.threads) is (finds (λ (x : Thread). x.number.0 == u.0) m.threads)
  where
    by : (o : Option Thread) → o ≡ Some e → Finds (λ (x : Thread). x.number.0 == u.0) m.threads o → Contains m.threads e × (e.number.0 ≡ u.0)
    by None same h = absurd cc
    by (Some x) same h =
        let one : x ≡ e = same_Some x e same in
        subst (λ (y : Thread). Contains m.threads y × (y.number.0 ≡ u.0)) one (Contains-at m.threads h.0 x h.1, eqb-true x.number.0 u.0 h.2)

-- none of its frames initialises a class
abbrev pub InitialisesNone : Thread → Type 0
InitialisesNone e = (d : DomainId) (c : ClassId) → initialisers_of d c e ≡ 0

module _ (m : Machine) (t : ThreadNo) where
  abbrev rests : Thread → Bool
  rests e = not (e.number.0 == t.0)

  abbrev new : Machine
  new = without_thread t m

  pub was_there : (e : Thread) → Contains new.threads e → Contains m.threads e
  was_there e on = filtered_from rests m.threads e on

  pub answered_without : ((e : Thread) → Contains m.threads e → e.number.0 ≢ t.0 → SegmentsAnswer m.classes e.segments) → AreCallsAnswered new
  answered_without h = record {
    segments = λ e on.
        h e (was_there e on)
        (λ same. so_not (e.number.0 == t.0) (filtered_passes rests m.threads e on) (eq-eqb e.number.0 t.0 same));
  }

  module _ (sealed : IsSealed m) (idle : (e : Thread) → Contains m.threads e → e.number.0 ≡ t.0 → InitialisesNone e) where
    -- ---- Domains.

    at_most : (a b c : ℕ) → a ≤ b → b ≤ c → a ≤ c
    at_most a b c h k = omega arith

    domains_sealed : AreSealedDomains new
    domains_sealed = record {
      numbered = sealed.domains.numbered;
      few = sealed.domains.few;
      names_differ = sealed.domains.names_differ;
      insides = sealed.domains.insides;
      chunks = λ d on.
          at_most (chunks_used new d.number) (chunks_used m d.number) d.quotas.chunks
          (sum_less rests (λ (e : Thread). sum_by (chunks_of d.number) e.segments) m.threads) (sealed.domains.chunks d on);
      budgets = sealed.domains.budgets;
      started = λ d on.
          at_most (started_in new d.number) (started_in m d.number) d.quotas.threads
          (fewer_pass rests (λ (e : Thread). e.domain.0 == d.number.0) m.threads) (sealed.domains.started d on);
    }

    -- ---- Segments.

    abbrev lives : (d : DomainId) → LiveDomain m d → LiveDomain new d
    lives d l =
        record { domain = l.domain; is_domain = l.is_domain; numbered = l.numbered; inside = l.inside; is_inside = l.is_inside }

    segment_fits : (Top : Inside → FrameState → Type 0) (s : Segment) → IsSealedSegment m Top s → IsSealedSegment new Top s
    segment_fits Top s h = record { home = lives s.shared.domain h.home; frames = h.frames }

    segments_fit : (segments : List Segment) → SegmentsFit m segments → SegmentsFit new segments
    segments_fit [] h = h
    segments_fit (s ∷ []) h = segment_fits (λ inside f. TopFits m inside s f) s h
    segments_fit (s ∷ above ∷ more) h = (segment_fits (CallerFits m) s h.0, segments_fit (above ∷ more) h.1)

    -- ---- Threads.

    rising : (i j : ℕ) (a b : Thread) → i < j → slice_get new.threads i ≡ Some a → slice_get new.threads j ≡ Some b → a.number.0 < b.number.0
    rising i j a b less at there =
        let o = stand_in_order rests m.threads i j a b less at there in
        sealed.threads.rise o.first o.second a b o.less o.at o.there

    differing : (i j k l : ℕ) (a b : Thread) (s u : Segment) → i < j → slice_get new.threads i ≡ Some a → slice_get new.threads j ≡ Some b
        → slice_get a.segments k ≡ Some s → slice_get b.segments l ≡ Some u → s.shared.number ≡ u.shared.number → ⊥
    differing i j k l a b s u less at there s_at u_at same =
        let o = stand_in_order rests m.threads i j a b less at there in
        let both = (sealed.threads.segments_differ o.first o.second k l a b s u o.at o.there s_at u_at same).0 in
        omega (arith, o.less, both)

    segments_differ : (i j k l : ℕ) (a b : Thread) (s u : Segment) → slice_get new.threads i ≡ Some a → slice_get new.threads j ≡ Some b
        → slice_get a.segments k ≡ Some s → slice_get b.segments l ≡ Some u → s.shared.number ≡ u.shared.number → (i ≡ j) × (k ≡ l)
    segments_differ i j k l a b s u at there s_at u_at same = elim (cases_eq i j) [
      | inl one ↦
          let thread : a ≡ b = same_Some a b (sym at ∙ ap (slice_get new.threads) one ∙ there) in
          let place = place_from rests m.threads i a at in (
            one,
            (sealed.threads.segments_differ place.0 place.0 k l a a s u place.1 place.1 s_at
                (ap (λ (e : Thread). slice_get e.segments l) thread ∙ u_at) same).1,
          )
      | inr differ ↦ elim (cases_lt i j) [
        | inl less ↦ absurd (differing i j k l a b s u less at there s_at u_at same)
        | inr more ↦ absurd (differing j i l k b a u s (omega (arith, more, differ)) there at u_at s_at (sym same))
      ]
    ]

    threads_sealed : AreSealedThreads new
    threads_sealed = record {
      segments = λ e on. segments_fit e.segments (sealed.threads.segments e (was_there e on));
      rise = rising;
      before = λ e on. sealed.threads.before e (was_there e on);
      first_numbers = sealed.threads.first_numbers;
      segments_before = λ e s on of. sealed.threads.segments_before e s (was_there e on) of;
      segments_differ = segments_differ;
    }

    -- ---- Classes in progress.

    found_there : (u : ThreadNo) → u.0 ≢ t.0 → IsLiveThread m u → IsLiveThread new u
    found_there u differ (e, is) =
        (e, found_still rests (λ (x : Thread). x.number.0 == u.0) m.threads (λ x on. stays x) ∙ is)
      where
        stays : (x : Thread) → (x.number.0 == u.0) ≡ true → rests x ≡ true
        stays x same = ap not (ne_eqb x.number.0 t.0 (λ one. differ (sym (eqb-true x.number.0 u.0 same) ∙ one)))

    live : (d : DomainState) (inside : Inside) (c : ClassId) (u : ThreadNo) → Contains m.domains d → d.inside ≡ Some inside
        → state_of inside.own c ≡ State.InProgress u → IsLiveThread new u
    live d inside c u on is state = elim (cases_eq u.0 t.0) [
      | inl same ↦
          let was = sealed.initialisers.live d inside c u on is state in
          let found = thread_found m u was.0 was.1 in
          let none = idle was.0 found.0 (found.1 ∙ same) d.number c in
          let some = sealed.initialisers.one was.0 d inside c found.0 on is in
          let one = progress_is was.0.number inside.own c u state (sym found.1) in
          absurd (omega (arith, none, some, one))
      | inr differ ↦ found_there u differ (sealed.initialisers.live d inside c u on is state)
    ]

    -- ---- The whole machine.

    pub sealed_without : IsSealed new
    sealed_without = record {
      domains = domains_sealed;
      heap_places = record { placed = sealed.heap_places.placed; apart = sealed.heap_places.apart };
      stack_places = record { placed = sealed.stack_places.placed; apart = sealed.stack_places.apart };
      capabilities = record {
        owner = sealed.capabilities.owner;
        count = sealed.capabilities.count;
        chained = sealed.capabilities.chained;
        within = sealed.capabilities.within;
        few = sealed.capabilities.few;
        remote = sealed.capabilities.remote;
        targets = sealed.capabilities.targets;
      };
      names = record {
        given_out = sealed.names.given_out;
        binders = λ n on. lives n.binder (sealed.names.binders n on);
        short = sealed.names.short;
        differ = sealed.names.differ;
        within = sealed.names.within;
      };
      threads = threads_sealed;
      tasks = record {
        given_out = sealed.tasks.given_out;
        own = λ d inside a e s on is task there of. sealed.tasks.own d inside a e s on is task (was_there e there) of;
      };
      initialisers = record {
        one = λ e d inside c there. sealed.initialisers.one e d inside c (was_there e there);
        live = live;
      };
    }
