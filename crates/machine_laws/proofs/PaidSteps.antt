-- Where a step is paid, all that is known of the machine is known still: a domain has one step fewer, and nothing else changes.
use Rattle.std.proofs.Common.{◌≡◌, ℕ, ◌+◌, ◌-◌, ◌≤◌, ◌==◌, ◌⊎◌, inl, inr, Bool, true, false, cond, not, List, [], ◌∷◌, length, map, zero, suc, Contains, Option, Some, None, slice_get, refl, sym, ap, subst, ◌∙◌, arith}
use Rattle.std.specs.Option.{option_and_then, option_map}
use Rattle.jk_model.specs.Capabilities.{last_number}
use Rattle.jk_model.specs.declared.identifiers.DomainId.{DomainId}
use Rattle.jk_model_frames.specs.Frames.{FrameState}
use Rattle.jk_model_frames.specs.Pools.{IsPlaced, Pool}
use Rattle.jk_model_heaps.specs.Capabilities.{CapRange, IsGivenOut}
use Rattle.jk_model_heaps.specs.Workings.{Inside}
use Rattle.jk_model_classes.specs.Stubs.{ImplementsRemote}
use Rattle.jk_model_sealing.specs.SealedInsides.{IsOfClass, IsSealedInside, Surroundings}
use Rattle.jk_model_sealing.specs.SealedRuns.{AreSealedFrames}
use Rattle.jk_model_sharing.specs.BoundNames.{count_bound_by}
use Rattle.jk_model_machine_state.specs.Machines.{DomainState, IsLiveDomain, Machine, Segment, caps_of, chunks_used, paid, started_in}
use Rattle.jk_model_machine_state.specs.Places.{LiveDomain}
use Rattle.jk_model_openings.specs.PoolsOfMachines.{heap_pages_of, heap_pool, of_live, stack_pages_of, stack_pool}
use Rattle.jk_model_runs.specs.Sealed.{AreSealedCapabilities, AreSealedDomains, CallerFits, IsSealed, IsSealedPool, IsSealedSegment, SegmentsFit, TopFits, initialisers_of, is_stand_in, numbers_before, surroundings}
use Rattle.jk_model_sealing.specs.ClassesInProgress.{progress_by}
use Rattle.list_lemmas.proofs.ItemsByPlace.{comes_from, mapped_at}
use Rattle.list_lemmas.proofs.ItemsOfLists.{Contains-at, place_of}
use Rattle.machine_laws.specs.KeptWorlds.{KeepsWorld, lasting}
use Rattle.machine_laws.proofs.WorldsKept.{sound_classes_stay}
use Rattle.machine_laws.specs.KnownMachines.{IsKnownMachine}
use Rattle.machine_laws.proofs.ChangedItems.{as_many, as_many_pass, front_sums_stay, parts_stay}

abbrev one_fewer : Option ℕ → Option ℕ
one_fewer o = option_map (λ (n : ℕ). n - 1) o

module _ (m : Machine) (d : DomainId) (sealed : IsSealed m) where
  abbrev pays : DomainState → DomainState
  pays e = cond (e.number.0 == d.0) (record e { steps_left = one_fewer e.steps_left }) e

  part_by : {X : Type 0} (part : DomainState → X) → ((e : DomainState) (x : Option ℕ) → part (record e { steps_left = x }) ≡ part e)
      → (b : Bool) (e : DomainState) → part (cond b (record e { steps_left = one_fewer e.steps_left }) e) ≡ part e
  part_by part h true e = h e (one_fewer e.steps_left)
  part_by part h false e = refl

  stays : {X : Type 0} (part : DomainState → X) → ((e : DomainState) (x : Option ℕ) → part (record e { steps_left = x }) ≡ part e)
      → (e : DomainState) → part (pays e) ≡ part e
  stays part h e = part_by part h (e.number.0 == d.0) e

  -- the domain that stood at a place before, with some number of steps left
  record WasPaid (i : ℕ) (e : DomainState) : Type 0 where
    before : DomainState
    at : slice_get m.domains i ≡ Some before
    left : Option ℕ
    is : record before { steps_left = left } ≡ e
    fewer : (left ≡ before.steps_left) ⊎ (left ≡ one_fewer before.steps_left)

  was_paid : (i : ℕ) (e : DomainState) → slice_get (paid d m).domains i ≡ Some e → WasPaid i e
  was_paid i e at = let from = comes_from pays m.domains i e at in by (from.from.number.0 == d.0) from.from from.there from.gives
    where
      by : (b : Bool) (x : DomainState) → slice_get m.domains i ≡ Some x
          → cond b (record x { steps_left = one_fewer x.steps_left }) x ≡ e → WasPaid i e
      by true x there is = record { before = x; at = there; left = one_fewer x.steps_left; is = is; fewer = inr refl }
      by false x there is = record { before = x; at = there; left = x.steps_left; is = is; fewer = inl refl }

  each : (P : DomainState → Type 0)
      → ((i : ℕ) (e : DomainState) (x : Option ℕ) → slice_get m.domains i ≡ Some e → (x ≡ e.steps_left) ⊎ (x ≡ one_fewer e.steps_left)
      → P (record e { steps_left = x })) → (e : DomainState) → Contains (paid d m).domains e → P e
  each P h e on =
      let at = place_of (paid d m).domains e on in
      let was = was_paid at.0 e at.1 in
      subst P was.is (h at.0 was.before was.left was.at was.fewer)

  caps_stay : caps_of (paid d m) ≡ caps_of m
  caps_stay = parts_stay pays (λ (e : DomainState). e.caps) (stays (λ (e : DomainState). e.caps) (λ e x. refl)) m.domains

  around_stays : (old new : DomainState) → new.table ≡ old.table → surroundings m old ≡ surroundings (paid d m) new
  around_stays old new table = λ i. record { classes = m.classes; table = sym table i; caps = sym caps_stay i }

  Budget : DomainState → Type 0
  Budget e =
      ((e.quotas.steps ≡ None) × (e.steps_left ≡ None))
      ⊎ ((most : ℕ) × (left : ℕ) × (e.quotas.steps ≡ Some most) × (e.steps_left ≡ Some left) × (left ≤ most))

  budget_by : (e : DomainState) (x : Option ℕ) → (x ≡ e.steps_left) ⊎ (x ≡ one_fewer e.steps_left) → Budget e → Budget (record e { steps_left = x })
  unfolding Budget
  budget_by e x (inl same) (inl none) = inl (none.0, same ∙ none.1)
  budget_by e x (inl same) (inr some) = inr (some.0, some.1, some.2, same ∙ some.3, some.4)
  budget_by e x (inr fewer) (inl none) = inl (none.0, fewer ∙ ap one_fewer none.1)
  budget_by e x (inr fewer) (inr (most, left, is, has, few)) = inr (most, left - 1, is, fewer ∙ ap one_fewer has, omega (arith, few))

  domains_paid : AreSealedDomains (paid d m)
  unfolding Budget
  domains_paid = record {
    numbered = λ i e at.
        let was = was_paid i e at in
        ap (λ (x : DomainState). x.number.0) (sym was.is) ∙ sealed.domains.numbered i was.before was.at;
    few = subst (λ (n : ℕ). n ≤ 65535)
        (sym (as_many_pass pays (λ (e : DomainState). not (is_stand_in m.classes e)) m.domains
        (λ e on. stays (λ (x : DomainState). not (is_stand_in m.classes x)) (λ x s. refl) e))) sealed.domains.few;
    names_differ = λ i j a b at bt live alive same.
        let was = was_paid i a at in
        let were = was_paid j b bt in
        sealed.domains.names_differ i j was.before were.before was.at were.at (subst IsLiveDomain (sym was.is) live)
        (subst IsLiveDomain (sym were.is) alive)
        (ap (λ (x : DomainState). x.name) was.is ∙ same ∙ ap (λ (x : DomainState). x.name) (sym were.is));
    insides = λ e inside.
        each (λ e. e.inside ≡ Some inside → IsSealedInside (surroundings (paid d m) e) e.quotas.heap inside)
        (λ i x s at left has.
        subst (λ (a : Surroundings). IsSealedInside a x.quotas.heap inside) (around_stays x x refl)
        (sealed.domains.insides x inside (Contains-at m.domains i x at) has)) e;
    chunks = each (λ e. chunks_used m e.number ≤ e.quotas.chunks) (λ i e x at left. sealed.domains.chunks e (Contains-at m.domains i e at));
    budgets = each Budget (λ i e x at left. budget_by e x left (sealed.domains.budgets e (Contains-at m.domains i e at)));
    started = each (λ e. started_in m e.number ≤ e.quotas.threads) (λ i e x at left. sealed.domains.started e (Contains-at m.domains i e at));
  }

  -- ---- Pools.

  part_stays : {X : Type 0} (part : DomainState → Inside → Option X) → ((e : DomainState) (x : Option ℕ) → part (record e { steps_left = x }) ≡ part e)
      → (n : DomainId) → of_live part (paid d m) n ≡ of_live part m n
  part_stays {X = X} part h n =
      mapped m.domains n.0 ∙ by (slice_get m.domains n.0)
    where
      mapped : (es : List DomainState) (k : ℕ)
          → option_and_then (λ (e : DomainState). option_and_then (part e) e.inside) (slice_get (map pays es) k)
          ≡ option_and_then (λ (e : DomainState). option_and_then (part e) e.inside) (option_map pays (slice_get es k))
      mapped [] k = refl
      mapped (e ∷ es) zero = refl
      mapped (e ∷ es) (suc k) = mapped es k

      one : (b : Bool) (e : DomainState)
          → option_and_then (part (cond b (record e { steps_left = one_fewer e.steps_left }) e))
          (cond b (record e { steps_left = one_fewer e.steps_left }) e).inside
          ≡ option_and_then (part e) e.inside
      one true e = ap (λ (f : Inside → Option X). option_and_then f e.inside) (h e (one_fewer e.steps_left))
      one false e = refl

      by : (o : Option DomainState) → option_and_then (λ (e : DomainState). option_and_then (part e) e.inside) (option_map pays o)
          ≡ option_and_then (λ (e : DomainState). option_and_then (part e) e.inside) o
      by None = refl
      by (Some e) = one (e.number.0 == d.0) e

  heap_pool_stays : heap_pool m ≡ heap_pool (paid d m)
  heap_pool_stays = λ i. record {
    pages = m.heap_pages;
    quota = λ n. sym (part_stays (λ e inside. Some (heap_pages_of e.quotas)) (λ e x. refl) n) i;
    first_page = λ n. sym (part_stays (λ e inside. inside.heap_at) (λ e x. refl) n) i;
  }

  stack_pool_stays : stack_pool m ≡ stack_pool (paid d m)
  stack_pool_stays = λ i. record {
    pages = m.stack_pages;
    quota = λ n. sym (part_stays (λ e inside. Some (stack_pages_of e.quotas)) (λ e x. refl) n) i;
    first_page = λ n. sym (part_stays (λ e inside. inside.stack_at) (λ e x. refl) n) i;
  }

  pool_paid : (pool : Pool) → IsSealedPool pool m → IsSealedPool pool (paid d m)
  pool_paid pool h = record {
    placed = λ e pages on has.
        each (λ e. (n : ℕ) → pool.quota e.number ≡ Some n → IsPlaced pool e.number n)
        (λ i e x at left n. h.placed e n (Contains-at m.domains i e at)) e on pages has;
    apart = h.apart;
  }

  -- ---- Capabilities.

  numbers_stay : (i : ℕ) → numbers_before (paid d m) i ≡ numbers_before m i
  numbers_stay i =
      front_sums_stay pays (λ (e : DomainState). e.caps.count) (stays (λ (e : DomainState). e.caps.count) (λ e x. refl)) i m.domains

  capabilities_paid : AreSealedCapabilities (paid d m)
  capabilities_paid = record {
    owner = each (λ e. e.caps.owner ≡ e.number) (λ i e x at left. sealed.capabilities.owner e (Contains-at m.domains i e at));
    count = each (λ e. e.caps.count ≡ e.quotas.caps) (λ i e x at left. sealed.capabilities.count e (Contains-at m.domains i e at));
    chained = λ i e at.
        let was = was_paid i e at in
        ap (λ (x : DomainState). x.caps.first) (sym was.is) ∙ sealed.capabilities.chained i was.before was.at
        ∙ ap (λ (n : ℕ). 1 + n) (sym (numbers_stay i));
    within = each (λ e. length e.caps.made ≤ e.caps.count) (λ i e x at left. sealed.capabilities.within e (Contains-at m.domains i e at));
    few = subst (λ (n : ℕ). n ≤ last_number) (sym (numbers_stay (length (paid d m).domains) ∙ ap (numbers_before m) (as_many pays m.domains)))
        sealed.capabilities.few;
    remote = λ e c on.
        each (λ e. is_stand_in m.classes e ≡ false → Contains e.caps.made c → ImplementsRemote m.classes c.class)
        (λ i e x at left. sealed.capabilities.remote e c (Contains-at m.domains i e at)) e on;
    targets = λ e c on.
        each (λ e. Contains e.caps.made c → c.revoked ≡ false
        → (inside : Inside) × (e.inside ≡ Some inside) × IsOfClass inside.heap c.target c.class)
        (λ i e x at left. sealed.capabilities.targets e c (Contains-at m.domains i e at)) e on;
  }

  -- ---- Segments.

  abbrev lives : (n : DomainId) → LiveDomain m n → LiveDomain (paid d m) n
  lives n l = record {
    domain = pays l.domain;
    is_domain = mapped_at pays m.domains n.0 l.domain l.is_domain;
    numbered = stays (λ (e : DomainState). e.number) (λ e x. refl) l.domain ∙ l.numbered;
    inside = l.inside;
    is_inside = stays (λ (e : DomainState). e.inside) (λ e x. refl) l.domain ∙ l.is_inside;
  }

  segment_paid : (Top : Inside → FrameState → Type 0) (s : Segment) → IsSealedSegment m Top s → IsSealedSegment (paid d m) Top s
  segment_paid Top s h = record {
    home = lives s.shared.domain h.home;
    frames = subst (λ (a : Surroundings). AreSealedFrames a (Top h.home.inside) h.home.inside.heap s.frames)
        (around_stays h.home.domain (pays h.home.domain) (stays (λ (e : DomainState). e.table) (λ e x. refl) h.home.domain)) h.frames;
  }

  segments_paid : (segments : List Segment) → SegmentsFit m segments → SegmentsFit (paid d m) segments
  segments_paid [] h = h
  segments_paid (s ∷ []) h = segment_paid (λ inside f. TopFits m inside s f) s h
  segments_paid (s ∷ above ∷ more) h = (segment_paid (CallerFits m) s h.0, segments_paid (above ∷ more) h.1)

  -- ---- The whole machine.

  pub sealed_paid : IsSealed (paid d m)
  sealed_paid = record {
    domains = domains_paid;
    heap_places = subst (λ (pool : Pool). IsSealedPool pool (paid d m)) heap_pool_stays (pool_paid (heap_pool m) sealed.heap_places);
    stack_places = subst (λ (pool : Pool). IsSealedPool pool (paid d m)) stack_pool_stays (pool_paid (stack_pool m) sealed.stack_places);
    capabilities = capabilities_paid;
    names = record {
      given_out = λ n on. subst (λ (caps : List CapRange). IsGivenOut caps n.cap) (sym caps_stay) (sealed.names.given_out n on);
      binders = λ n on. lives n.binder (sealed.names.binders n on);
      short = sealed.names.short;
      differ = sealed.names.differ;
      within = each (λ e. count_bound_by m.names e.number ≤ e.quotas.names)
          (λ i e x at left. sealed.names.within e (Contains-at m.domains i e at));
    };
    threads = record {
      segments = λ thread on. segments_paid thread.segments (sealed.threads.segments thread on);
      rise = sealed.threads.rise;
      before = sealed.threads.before;
      first_numbers = sealed.threads.first_numbers;
      segments_before = sealed.threads.segments_before;
      segments_differ = sealed.threads.segments_differ;
    };
    tasks = record {
      given_out = λ e inside a n on is there.
          let was = was_paid (place_of (paid d m).domains e on).0 e (place_of (paid d m).domains e on).1 in
          sealed.tasks.given_out was.before inside a n (Contains-at m.domains (place_of (paid d m).domains e on).0 was.before was.at)
          (ap (λ (x : DomainState). x.inside) was.is ∙ is) there;
      own = λ e inside a thread s on is there of_thread of.
          let was = was_paid (place_of (paid d m).domains e on).0 e (place_of (paid d m).domains e on).1 in
          sealed.tasks.own was.before inside a thread s (Contains-at m.domains (place_of (paid d m).domains e on).0 was.before was.at)
          (ap (λ (x : DomainState). x.inside) was.is ∙ is) there of_thread of ∙ ap (λ (x : DomainState). x.number) was.is;
    };
    initialisers = record {
      one = λ thread e inside c on_thread.
          each (λ e. e.inside ≡ Some inside → initialisers_of e.number c thread ≡ progress_by thread.number inside.own c)
          (λ i e x at left. sealed.initialisers.one thread e inside c on_thread (Contains-at m.domains i e at)) e;
      live = λ e inside c u on is state.
          let was = was_paid (place_of (paid d m).domains e on).0 e (place_of (paid d m).domains e on).1 in
          sealed.initialisers.live was.before inside c u (Contains-at m.domains (place_of (paid d m).domains e on).0 was.before was.at)
          (ap (λ (x : DomainState). x.inside) was.is ∙ is) state;
    };
  }

  keeps_world : KeepsWorld m (paid d m)
  keeps_world = record {
    pools = (refl, refl);
    classes = refl;
    domains = parts_stay pays lasting (stays lasting (λ e x. refl)) m.domains;
    next_thread = refl;
  }

pub known_paid : (m : Machine) (d : DomainId) → IsKnownMachine m → IsKnownMachine (paid d m)
known_paid m d known = (
  (sealed_paid m d known.0.0, record { segments = known.0.1.segments }),
  sound_classes_stay m (paid d m) (keeps_world m d known.0.0) known.1,
)
