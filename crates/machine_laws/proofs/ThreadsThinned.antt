-- Each thread of a sealed machine keeps some of its segments, of which flags may change and others are gone: the machine is sealed, where what is
-- left fits, costs no more and initialises the classes that are in progress.
use Rattle.std.proofs.Common.{◌≡◌, ℕ, ◌<◌, ◌≤◌, ◌==◌, List, [], ◌∷◌, map, sum_by, Contains, Some, slice_get, sym, ap, subst, ◌∙◌, arith}
use Rattle.std.specs.Option.{option_map}
use Rattle.std.proofs.lemmas.List.Sums.{sum_by-cons}
use Rattle.std.proofs.lemmas.Option.{same_Some}
use Rattle.jk_model.specs.declared.identifiers.ClassId.{ClassId}
use Rattle.jk_model.specs.declared.identifiers.DomainId.{DomainId}
use Rattle.jk_model.specs.declared.identifiers.SegmentNo.{SegmentNo}
use Rattle.jk_model.specs.declared.identifiers.ThreadNo.{ThreadNo}
use Rattle.jk_model_domains.specs.Objects.{Task}
use Rattle.jk_model_frames.specs.Frames.{FrameState}
use Rattle.jk_model_heaps.specs.Workings.{Inside}
use Rattle.jk_model_sealing.specs.ClassesInProgress.{progress_by}
use Rattle.jk_model_machine_state.specs.Machines.{IsLiveThread, Machine, Segment, Thread, chunks_of, chunks_used}
use Rattle.jk_model_machine_state.specs.Places.{LiveDomain}
use Rattle.jk_model_runs.specs.Sealed.{AreSealedDomains, AreSealedThreads, CallerFits, IsSealed, IsSealedSegment, SegmentsFit, TopFits, initialisers_of}
use Rattle.list_lemmas.proofs.ItemsByPlace.{comes_from}
use Rattle.list_lemmas.proofs.ItemsOfLists.{Contains-at, Contains-here, Contains-there, place_of}
use Rattle.machine_laws.proofs.ChangedItems.{as_many_pass}
use Rattle.machine_laws.proofs.InitialisersAfterRuns.{found_still}

-- the segment stood in the thread before, with the same number and domain
pub record WasIn (e : Thread) (s : Segment) : Type 0 where
  pub before : Segment
  pub there : Contains e.segments before
  pub number : s.shared.number ≡ before.shared.number
  pub domain : s.shared.domain ≡ before.shared.domain

abbrev pub thinned : Machine → (Thread → Thread) → Machine
thinned m g = record m { threads = map g m.threads }

pub record Thins (m : Machine) (g : Thread → Thread) : Type 0 where
  pub sealed : IsSealed m
  pub number : (e : Thread) → (g e).number ≡ e.number
  pub domain : (e : Thread) → (g e).domain ≡ e.domain
  pub was : (e : Thread) (s : Segment) → Contains m.threads e → Contains (g e).segments s → WasIn e s
  -- no two of a thread have one number
  pub differ : (e : Thread) (k l : ℕ) (s u : Segment) → Contains m.threads e → slice_get (g e).segments k ≡ Some s
      → slice_get (g e).segments l ≡ Some u → s.shared.number ≡ u.shared.number → k ≡ l
  pub fits : (e : Thread) → Contains m.threads e → SegmentsFit (thinned m g) (g e).segments
  pub chunks : (e : Thread) (d : DomainId) → Contains m.threads e → sum_by (chunks_of d) (g e).segments ≤ sum_by (chunks_of d) e.segments
  pub initialisers : (e : Thread) (d : DomainId) (c : ClassId) → Contains m.threads e → initialisers_of d c (g e) ≡ initialisers_of d c e

-- sums of items that are no greater
pub sums_no_more : {X : Type 0} (g : X → X) (f : X → ℕ) (xs : List X) → ((x : X) → Contains xs x → f (g x) ≤ f x) → sum_by f (map g xs) ≤ sum_by f xs
sums_no_more g f [] h = omega arith
sums_no_more g f (x ∷ xs) h =
    omega (
      arith,
      h x (Contains-here x xs),
      sums_no_more g f xs (λ y on. h y (Contains-there y x xs on)),
      sum_by-cons f (g x) (map g xs),
      sum_by-cons f x xs,
    )

abbrev pub lives_thinned : (m : Machine) (g : Thread → Thread) (d : DomainId) → LiveDomain m d → LiveDomain (thinned m g) d
lives_thinned m g d l =
    record { domain = l.domain; is_domain = l.is_domain; numbered = l.numbered; inside = l.inside; is_inside = l.is_inside }

module _ (m : Machine) (g : Thread → Thread) (h : Thins m g) where
  abbrev new : Machine
  new = thinned m g

  at_most : (a b c : ℕ) → a ≤ b → b ≤ c → a ≤ c
  at_most a b c less more = omega arith

  domains_sealed : AreSealedDomains new
  domains_sealed = record {
    numbered = h.sealed.domains.numbered;
    few = h.sealed.domains.few;
    names_differ = h.sealed.domains.names_differ;
    insides = h.sealed.domains.insides;
    chunks = λ d on.
        at_most (chunks_used new d.number) (chunks_used m d.number) d.quotas.chunks
        (sums_no_more g (λ (e : Thread). sum_by (chunks_of d.number) e.segments) m.threads (λ e there. h.chunks e d.number there))
        (h.sealed.domains.chunks d on);
    budgets = h.sealed.domains.budgets;
    started = λ d on.
        subst (λ (n : ℕ). n ≤ d.quotas.threads)
        (sym (as_many_pass g (λ (e : Thread). e.domain.0 == d.number.0) m.threads
        (λ e there. ap (λ (n : DomainId). n.0 == d.number.0) (h.domain e)))) (h.sealed.domains.started d on);
  }

  -- ---- Threads.

  -- the thread that stood there
  record Was (i : ℕ) (e : Thread) : Type 0 where
    before : Thread
    at : slice_get m.threads i ≡ Some before
    is : g before ≡ e

  was_at : (i : ℕ) (e : Thread) → slice_get new.threads i ≡ Some e → Was i e
  was_at i e at = let from = comes_from g m.threads i e at in record { before = from.from; at = from.there; is = from.gives }

  was_there : (e : Thread) → Contains new.threads e → (x : Thread) × Contains m.threads x × (g x ≡ e)
  was_there e on =
      let at = place_of new.threads e on in
      let was = was_at at.0 e at.1 in
      (was.before, Contains-at m.threads at.0 was.before was.at, was.is)

  each : (P : Thread → Type 0) → ((x : Thread) → Contains m.threads x → P (g x)) → (e : Thread) → Contains new.threads e → P e
  each P holds e on = let was = was_there e on in subst P was.2 (holds was.0 was.1)

  numbers : (e : Thread) → (g e).number.0 ≡ e.number.0
  numbers e = ap (λ (n : ThreadNo). n.0) (h.number e)

  rising : (i j : ℕ) (a b : Thread) → i < j → slice_get new.threads i ≡ Some a → slice_get new.threads j ≡ Some b → a.number.0 < b.number.0
  rising i j a b less at there =
      let x = was_at i a at in
      let y = was_at j b there in
      moved a.number.0 b.number.0 x.before.number.0 y.before.number.0 (h.sealed.threads.rise i j x.before y.before less x.at y.at)
      (ap (λ (e : Thread). e.number.0) (sym x.is) ∙ numbers x.before) (ap (λ (e : Thread). e.number.0) (sym y.is) ∙ numbers y.before)
    where
      moved : (a b c d : ℕ) → c < d → a ≡ c → b ≡ d → a < b
      moved a b c d less left right = omega arith

  segment_was : (i k : ℕ) (e : Thread) (s : Segment) → (x : Was i e) → slice_get e.segments k ≡ Some s → WasIn x.before s
  segment_was i k e s x at =
      h.was x.before s (Contains-at m.threads i x.before x.at)
      (Contains-at (g x.before).segments k s (ap (λ (y : Thread). slice_get y.segments k) x.is ∙ at))

  one_place : (i j k l : ℕ) (a b : Thread) (s u : Segment) → (x : Was i a) → (y : Was j b) → slice_get a.segments k ≡ Some s
      → slice_get b.segments l ≡ Some u → s.shared.number ≡ u.shared.number → i ≡ j
  one_place i j k l a b s u x y s_at u_at same =
      let v = segment_was i k a s x s_at in
      let w = segment_was j l b u y u_at in
      let v_at = place_of x.before.segments v.before v.there in
      let w_at = place_of y.before.segments w.before w.there in
      (h.sealed.threads.segments_differ i j v_at.0 w_at.0 x.before y.before v.before w.before x.at y.at v_at.1 w_at.1
      (sym v.number ∙ same ∙ w.number)).0

  segments_differ : (i j k l : ℕ) (a b : Thread) (s u : Segment) → slice_get new.threads i ≡ Some a → slice_get new.threads j ≡ Some b
      → slice_get a.segments k ≡ Some s → slice_get b.segments l ≡ Some u → s.shared.number ≡ u.shared.number → (i ≡ j) × (k ≡ l)
  segments_differ i j k l a b s u at there s_at u_at same =
      let x = was_at i a at in
      let y = was_at j b there in
      let one = one_place i j k l a b s u x y s_at u_at same in
      let thread : a ≡ b = same_Some a b (sym at ∙ ap (slice_get new.threads) one ∙ there) in (
        one,
        h.differ x.before k l s u (Contains-at m.threads i x.before x.at) (ap (λ (e : Thread). slice_get e.segments k) x.is ∙ s_at)
            (ap (λ (e : Thread). slice_get e.segments l) (x.is ∙ thread) ∙ u_at) same,
      )

  threads_sealed : AreSealedThreads new
  threads_sealed = record {
    segments = each (λ e. SegmentsFit new e.segments) h.fits;
    rise = rising;
    before = each (λ e. (1 ≤ e.number.0) × (e.number.0 < m.next_thread))
        (λ x on. subst (λ (n : ℕ). (1 ≤ n) × (n < m.next_thread)) (sym (numbers x)) (h.sealed.threads.before x on));
    first_numbers = h.sealed.threads.first_numbers;
    segments_before = λ e s.
        each (λ e. Contains e.segments s → (1 ≤ s.shared.number.0) × (s.shared.number.0 < m.next_segment))
        (λ x on of.
        let v = h.was x s on of in
        subst (λ (n : SegmentNo). (1 ≤ n.0) × (n.0 < m.next_segment)) (sym v.number) (h.sealed.threads.segments_before x v.before on v.there)) e;
    segments_differ = segments_differ;
  }

  live_still : (u : ThreadNo) → IsLiveThread m u → IsLiveThread new u
  live_still u (e, is) = (
    g e,
    found_still g (λ (x : Thread). x.number.0 == u.0) (λ x. ap (λ (n : ThreadNo). n.0 == u.0) (h.number x)) m.threads ∙ ap (option_map g) is,
  )

  pub sealed_thinned : IsSealed new
  sealed_thinned = record {
    domains = domains_sealed;
    heap_places = record { placed = h.sealed.heap_places.placed; apart = h.sealed.heap_places.apart };
    stack_places = record { placed = h.sealed.stack_places.placed; apart = h.sealed.stack_places.apart };
    capabilities = record {
      owner = h.sealed.capabilities.owner;
      count = h.sealed.capabilities.count;
      chained = h.sealed.capabilities.chained;
      within = h.sealed.capabilities.within;
      few = h.sealed.capabilities.few;
      remote = h.sealed.capabilities.remote;
      targets = h.sealed.capabilities.targets;
    };
    names = record {
      given_out = h.sealed.names.given_out;
      binders = λ n on. lives_thinned m g n.binder (h.sealed.names.binders n on);
      short = h.sealed.names.short;
      differ = h.sealed.names.differ;
      within = h.sealed.names.within;
    };
    threads = threads_sealed;
    tasks = record {
      given_out = h.sealed.tasks.given_out;
      own = λ d inside a e s on is task there.
          each (λ e. Contains e.segments s → s.shared.domain ≡ d.number)
          (λ x of_thread of.
          let v = h.was x s of_thread of in
          v.domain
          ∙ h.sealed.tasks.own d inside a x v.before on is
          (subst (λ (n : SegmentNo). Contains inside.heap (record { name = a; object = Task n })) v.number task) of_thread v.there) e there;
    };
    initialisers = record {
      one = λ e d inside c there on is.
          each (λ e. initialisers_of d.number c e ≡ progress_by e.number inside.own c)
          (λ x of_thread.
          h.initialisers x d.number c of_thread ∙ h.sealed.initialisers.one x d inside c of_thread on is
          ∙ ap (λ (n : ThreadNo). progress_by n inside.own c) (sym (h.number x))) e there;
      live = λ d inside c u on is state. live_still u (h.sealed.initialisers.live d inside c u on is state);
    };
  }

-- ---- Segments fit there as they fitted.

module _ (m : Machine) (g : Thread → Thread) where
  pub segment_thinned : (Top : Inside → FrameState → Type 0) (s : Segment) → IsSealedSegment m Top s → IsSealedSegment (thinned m g) Top s
  segment_thinned Top s h = record { home = lives_thinned m g s.shared.domain h.home; frames = h.frames }

  pub segments_thinned : (segments : List Segment) → SegmentsFit m segments → SegmentsFit (thinned m g) segments
  segments_thinned [] h = h
  segments_thinned (s ∷ []) h = segment_thinned (λ inside f. TopFits m inside s f) s h
  segments_thinned (s ∷ above ∷ more) h = (segment_thinned (CallerFits m) s h.0, segments_thinned (above ∷ more) h.1)
