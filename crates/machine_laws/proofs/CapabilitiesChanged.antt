-- A live domain of a sealed machine has other capabilities than before, of which as many are given out: the machine is sealed where the new ones are
-- in order.
use Rattle.std.proofs.Common.{◌≡◌, ℕ, ◌-◌, ◌<◌, ◌≤◌, ◌==◌, Bool, true, false, cond, List, [], ◌∷◌, length, map, find, Contains, Option, Some, None, slice_get, refl, sym, ap, subst, ◌∙◌, arith}
use Rattle.std.specs.Option.{option_and_then, option_map}
use Rattle.std.proofs.lemmas.Bool.{eqb-true}
use Rattle.std.proofs.lemmas.Option.{same_Some}
use Rattle.jk_model.specs.declared.identifiers.CapId.{CapId}
use Rattle.jk_model.specs.declared.identifiers.DomainId.{DomainId}
use Rattle.jk_model.specs.declared.script.Quotas.{Quotas}
use Rattle.jk_model_classes.specs.Stubs.{ImplementsRemote}
use Rattle.jk_model_domains.specs.declared.states.ClassState.TheVariants as State
use Rattle.jk_model_domains.specs.Objects.{Task}
use Rattle.jk_model_domains.specs.OwnStates.{state_of}
use Rattle.jk_model_frames.specs.Frames.{FrameState}
use Rattle.jk_model_heaps.specs.Capabilities.{CapRange, Capability, IsGivenOut, OwnedCapability, capability_in, has_number}
use Rattle.jk_model_heaps.specs.Workings.{Inside}
use Rattle.jk_model_sealing.specs.ClassesInProgress.{progress_by}
use Rattle.jk_model_sealing.specs.SealedInsides.{IsOfClass, Surroundings}
use Rattle.jk_model_sealing.specs.SealedRuns.{AreSealedFrames}
use Rattle.jk_model_sharing.specs.BoundNames.{count_bound_by}
use Rattle.jk_model_machine_state.specs.Machines.{DomainState, IsLiveThread, Machine, Segment, caps_of}
use Rattle.jk_model_machine_state.specs.Places.{LiveDomain}
use Rattle.jk_model_runs.specs.Sealed.{CallerFits, IsSealed, IsSealedSegment, SegmentsFit, TopFits, initialisers_of, is_stand_in, surroundings}
use Rattle.list_lemmas.proofs.ItemsByPlace.{comes_from, mapped_at}
use Rattle.list_lemmas.proofs.ItemsOfLists.{Contains-at, place_of}
use Rattle.machine_laws.proofs.DomainsChanged.{ChangesDomains, capabilities_changed, domains_changed, each, frames_more, heap_places_changed, stack_places_changed}

-- ---- Domains keep what they have inside.

module _ (m : Machine) (sealed : IsSealed m) (g : DomainState → DomainState) (h : ChangesDomains m g)
    (keeps : (e : DomainState) → (g e).inside ≡ e.inside) where
  abbrev pub changed_domains : Machine
  changed_domains = record m { domains = map g m.domains }

  abbrev lives : (d : DomainId) → LiveDomain m d → LiveDomain changed_domains d
  lives d l = record {
    domain = g l.domain;
    is_domain = mapped_at g m.domains d.0 l.domain l.is_domain;
    numbered = h.number l.domain ∙ l.numbered;
    inside = l.inside;
    is_inside = keeps l.domain ∙ l.is_inside;
  }

  frames_there : (d : DomainState) (Top : FrameState → Type 0) (inside : Inside) (frames : List FrameState)
      → AreSealedFrames (surroundings m d) Top inside.heap frames → AreSealedFrames (surroundings changed_domains (g d)) Top inside.heap frames
  frames_there d Top inside frames f =
      subst (λ (a : Surroundings). AreSealedFrames a Top inside.heap frames)
      (λ i. record { classes = m.classes; table = sym (h.table d) i; caps = caps_of changed_domains })
      (frames_more m.classes d.table (caps_of m) (caps_of changed_domains) h.given_out Top inside.heap frames f)

  segment_there : (Top : Inside → FrameState → Type 0) (s : Segment) → IsSealedSegment m Top s → IsSealedSegment changed_domains Top s
  segment_there Top s x =
      record { home = lives s.shared.domain x.home; frames = frames_there x.home.domain (Top x.home.inside) x.home.inside s.frames x.frames }

  segments_there : (segments : List Segment) → SegmentsFit m segments → SegmentsFit changed_domains segments
  segments_there [] x = x
  segments_there (s ∷ []) x = segment_there (λ inside f. TopFits m inside s f) s x
  segments_there (s ∷ above ∷ more) x = (segment_there (CallerFits m) s x.0, segments_there (above ∷ more) x.1)

  each_inside : (P : DomainState → Inside → Type 0) → ((e : DomainState) (x : Inside) → Contains m.domains e → e.inside ≡ Some x → P (g e) x)
      → (d : DomainState) (x : Inside) → Contains changed_domains.domains d → d.inside ≡ Some x → P d x
  each_inside P holds d x on is =
      let at = place_of changed_domains.domains d on in
      let from = comes_from g m.domains at.0 d at.1 in
      subst (λ (e : DomainState). P e x) from.gives
      (holds from.from x (Contains-at m.domains at.0 from.from from.there)
      (sym (keeps from.from) ∙ ap (λ (e : DomainState). e.inside) from.gives ∙ is))

  pub changed_sealed : IsSealed changed_domains
  changed_sealed = record {
    domains = domains_changed m sealed g h m.names m.threads (λ d. omega arith) (λ d. omega arith);
    heap_places = heap_places_changed m sealed g h m.names m.threads;
    stack_places = stack_places_changed m sealed g h m.names m.threads;
    capabilities = capabilities_changed m sealed g h m.names m.threads;
    names = record {
      given_out = λ n on. h.given_out n.cap (sealed.names.given_out n on);
      binders = λ n on. lives n.binder (sealed.names.binders n on);
      short = sealed.names.short;
      differ = sealed.names.differ;
      within = each m sealed g h m.names m.threads (λ d. count_bound_by m.names d.number ≤ d.quotas.names)
          (λ e on.
          subst (λ (k : DomainId). count_bound_by m.names k ≤ (g e).quotas.names) (sym (h.number e))
          (subst (λ (q : Quotas). count_bound_by m.names e.number ≤ q.names) (sym (h.quotas e)) (sealed.names.within e on)));
    };
    threads = record {
      segments = λ thread on. segments_there thread.segments (sealed.threads.segments thread on);
      rise = sealed.threads.rise;
      before = sealed.threads.before;
      first_numbers = sealed.threads.first_numbers;
      segments_before = sealed.threads.segments_before;
      segments_differ = sealed.threads.segments_differ;
    };
    tasks = record {
      given_out = λ d inside a k on is task.
          each_inside (λ d x. Contains x.heap (record { name = a; object = Task k }) → (1 ≤ k.0) × (k.0 < m.next_segment))
          (λ e x there has t. sealed.tasks.given_out e x a k there has t) d inside on is task;
      own = λ d inside a thread s on is task there of.
          each_inside (λ d x. Contains x.heap (record { name = a; object = Task s.shared.number }) → s.shared.domain ≡ d.number)
          (λ e x e_there has t. sealed.tasks.own e x a thread s e_there has t there of ∙ sym (h.number e)) d inside on is task;
    };
    initialisers = record {
      one = λ thread d inside c of_thread on is.
          each_inside (λ d x. initialisers_of d.number c thread ≡ progress_by thread.number x.own c)
          (λ e x there has.
          ap (λ (k : DomainId). initialisers_of k c thread) (h.number e) ∙ sealed.initialisers.one thread e x c of_thread there has) d inside on is;
      live = λ d inside c u on is state.
          each_inside (λ d x. state_of x.own c ≡ State.InProgress u → IsLiveThread changed_domains u)
          (λ e x there has s. sealed.initialisers.live e x c u there has s) d inside on is state;
    };
  }

-- ---- One domain has other capabilities.

abbrev pub with_made : (CapRange → List Capability) → CapRange → CapRange
with_made f r = record r { made = f r }

abbrev pub changes_caps : DomainId → (CapRange → List Capability) → DomainState → DomainState
changes_caps n f e = cond (e.number.0 == n.0) (record e { caps = with_made f e.caps }) e

pub record CapsChange (m : Machine) (n : DomainId) (f : CapRange → List Capability) : Type 0 where
  -- where there was one there is one
  pub slots : (r : CapRange) (j : ℕ) (a : Capability) → slice_get r.made j ≡ Some a → (b : Capability) × (slice_get (f r) j ≡ Some b)
  pub home : LiveDomain m n
  pub within : length (f home.domain.caps) ≤ home.domain.caps.count
  pub remote : (c : Capability) → Contains (f home.domain.caps) c → ImplementsRemote m.classes c.class
  pub targets : (c : Capability) → Contains (f home.domain.caps) c → c.revoked ≡ false → IsOfClass home.inside.heap c.target c.class

module _ (n : DomainId) (f : CapRange → List Capability) where
  part_by : {X : Type 0} (part : DomainState → X) → ((e : DomainState) (r : CapRange) → part (record e { caps = r }) ≡ part e) → (b : Bool)
      (e : DomainState) → part (cond b (record e { caps = with_made f e.caps }) e) ≡ part e
  part_by part h true e = h e (with_made f e.caps)
  part_by part h false e = refl

  pub part_stays : {X : Type 0} (part : DomainState → X) → ((e : DomainState) (r : CapRange) → part (record e { caps = r }) ≡ part e)
      → (e : DomainState) → part (changes_caps n f e) ≡ part e
  part_stays part h e = part_by part h (e.number.0 == n.0) e

  caps_part : {X : Type 0} (part : CapRange → X) → ((r : CapRange) → part (with_made f r) ≡ part r) → (b : Bool) (e : DomainState)
      → part (cond b (record e { caps = with_made f e.caps }) e).caps ≡ part e.caps
  caps_part part h true e = h e.caps
  caps_part part h false e = refl

  module _ (slots : (r : CapRange) (j : ℕ) (a : Capability) → slice_get r.made j ≡ Some a → (b : Capability) × (slice_get (f r) j ≡ Some b)) where
    in_range : (r : CapRange) (k : CapId) (c : OwnedCapability) → capability_in k r ≡ Some c
        → (d : OwnedCapability) × (capability_in k (with_made f r) ≡ Some d)
    in_range r k c is = by (slice_get r.made (k.0 - r.first)) refl is
      where
        by : (o : Option Capability) → slice_get r.made (k.0 - r.first) ≡ o
            → option_map (λ (x : Capability). record { owner = r.owner; capability = x }) o ≡ Some c
            → (d : OwnedCapability) × (capability_in k (with_made f r) ≡ Some d)
        by None at e = absurd cc
        by (Some x) at e =
            let b = slots r (k.0 - r.first) x at in (
              record { owner = r.owner; capability = b.0 },
              ap (option_map (λ (y : Capability). record { owner = r.owner; capability = y })) b.1,
            )

    in_domain : (b : Bool) (e : DomainState) (k : CapId) (c : OwnedCapability) → capability_in k e.caps ≡ Some c
        → (d : OwnedCapability) × (capability_in k (cond b (record e { caps = with_made f e.caps }) e).caps ≡ Some d)
    in_domain true e k c is = in_range e.caps k c is
    in_domain false e k c is = (c, is)

    given_here : (k : CapId) (c : OwnedCapability) (e : DomainState) (domains : List DomainState) (b a z : Bool) → z ≡ a
        → (option_and_then (capability_in k) (find (has_number k) (map (λ (x : DomainState). x.caps) domains)) ≡ Some c
        → IsGivenOut (map (λ (x : DomainState). x.caps) (map (changes_caps n f) domains)) k)
        → option_and_then (capability_in k) (cond a (Some e.caps) (find (has_number k) (map (λ (x : DomainState). x.caps) domains))) ≡ Some c
        → (d : OwnedCapability)
        × (option_and_then (capability_in k)
        (cond z (Some (cond b (record e { caps = with_made f e.caps }) e).caps)
        (find (has_number k) (map (λ (x : DomainState). x.caps) (map (changes_caps n f) domains))))
        ≡ Some d)
    given_here k c e domains b true true same later is = in_domain b e k c is
    given_here k c e domains b false false same later is = later is
    given_here k c e domains b true false same later is = absurd cc
    given_here k c e domains b false true same later is = absurd cc

    pub given_by : (k : CapId) (c : OwnedCapability) (domains : List DomainState)
        → option_and_then (capability_in k) (find (has_number k) (map (λ (e : DomainState). e.caps) domains)) ≡ Some c
        → IsGivenOut (map (λ (e : DomainState). e.caps) (map (changes_caps n f) domains)) k
    given_by k c [] is = absurd cc
    given_by k c (e ∷ domains) is =
        given_here k c e domains (e.number.0 == n.0) (has_number k e.caps) (has_number k (changes_caps n f e).caps)
        (caps_part (has_number k) (λ r. refl) (e.number.0 == n.0) e) (given_by k c domains) is

module _ (m : Machine) (sealed : IsSealed m) (n : DomainId) (f : CapRange → List Capability) (x : CapsChange m n f) where
  -- the domain of that number
  home_is : (e : DomainState) → Contains m.domains e → (e.number.0 == n.0) ≡ true → e ≡ x.home.domain
  home_is e on same =
      let at = place_of m.domains e on in
      same_Some e x.home.domain
      (sym at.1 ∙ ap (slice_get m.domains) (sym (sealed.domains.numbered at.0 e at.1) ∙ eqb-true e.number.0 n.0 same) ∙ x.home.is_domain)

  home_lives : is_stand_in m.classes x.home.domain ≡ false
  home_lives = ap (λ (o : Option Inside). is_stand_in m.classes (record x.home.domain { inside = o })) x.home.is_inside

  within_by : (b : Bool) (e : DomainState) → (e.number.0 == n.0) ≡ b → Contains m.domains e
      → length (cond b (record e { caps = with_made f e.caps }) e).caps.made ≤ e.caps.count
  within_by true e same on = subst (λ (d : DomainState). length (f d.caps) ≤ d.caps.count) (sym (home_is e on same)) x.within
  within_by false e same on = sealed.capabilities.within e on

  stand_by : (b : Bool) (e : DomainState) → (e.number.0 == n.0) ≡ b → Contains m.domains e
      → is_stand_in m.classes (cond b (record e { caps = with_made f e.caps }) e) ≡ false → is_stand_in m.classes e ≡ false
  stand_by true e same on h = subst (λ (d : DomainState). is_stand_in m.classes d ≡ false) (sym (home_is e on same)) home_lives
  stand_by false e same on h = h

  remote_by : (b : Bool) (e : DomainState) (c : Capability) → (e.number.0 == n.0) ≡ b → Contains m.domains e
      → is_stand_in m.classes (cond b (record e { caps = with_made f e.caps }) e) ≡ false
      → Contains (cond b (record e { caps = with_made f e.caps }) e).caps.made c → ImplementsRemote m.classes c.class
  remote_by true e c same on stands has = x.remote c (subst (λ (d : DomainState). Contains (f d.caps) c) (home_is e on same) has)
  remote_by false e c same on stands has = sealed.capabilities.remote e c on stands has

  targets_by : (b : Bool) (e : DomainState) (c : Capability) → (e.number.0 == n.0) ≡ b → Contains m.domains e
      → Contains (cond b (record e { caps = with_made f e.caps }) e).caps.made c → c.revoked ≡ false
      → (y : Inside) × ((cond b (record e { caps = with_made f e.caps }) e).inside ≡ Some y) × IsOfClass y.heap c.target c.class
  targets_by true e c same on has live =
      let one = home_is e on same in (
        x.home.inside,
        ap (λ (d : DomainState). d.inside) one ∙ x.home.is_inside,
        x.targets c (subst (λ (d : DomainState). Contains (f d.caps) c) one has) live,
      )
  targets_by false e c same on has live = sealed.capabilities.targets e c on has live

  pub caps_change : ChangesDomains m (changes_caps n f)
  caps_change = record {
    number = part_stays n f (λ (e : DomainState). e.number) (λ e r. refl);
    name = part_stays n f (λ (e : DomainState). e.name) (λ e r. refl);
    quotas = part_stays n f (λ (e : DomainState). e.quotas) (λ e r. refl);
    steps_left = part_stays n f (λ (e : DomainState). e.steps_left) (λ e r. refl);
    table = part_stays n f (λ (e : DomainState). e.table) (λ e r. refl);
    inside = λ e y is. sym (part_stays n f (λ (d : DomainState). d.inside) (λ d r. refl) e) ∙ is;
    owner = λ e. caps_part n f (λ (r : CapRange). r.owner) (λ r. refl) (e.number.0 == n.0) e;
    first = λ e. caps_part n f (λ (r : CapRange). r.first) (λ r. refl) (e.number.0 == n.0) e;
    count = λ e. caps_part n f (λ (r : CapRange). r.count) (λ r. refl) (e.number.0 == n.0) e;
    within = λ e on. within_by (e.number.0 == n.0) e refl on;
    given_out = λ k given. given_by n f x.slots k given.0 m.domains given.1;
    stand_ins = λ e on stands. stand_by (e.number.0 == n.0) e refl on stands;
    remote = λ e c on stands has. remote_by (e.number.0 == n.0) e c refl on stands has;
    targets = λ e c on has live. targets_by (e.number.0 == n.0) e c refl on has live;
  }

  pub caps_sealed : IsSealed (record m { domains = map (changes_caps n f) m.domains })
  caps_sealed =
      changed_sealed m sealed (changes_caps n f) caps_change (part_stays n f (λ (d : DomainState). d.inside) (λ d r. refl))
