-- A domain ends: the machine is sealed without what the domain had, and calls stay answered.
use Rattle.std.proofs.Common.{◌≡◌, ◌≢◌, ℕ, ◌-◌, ◌<◌, ◌≤◌, ◌==◌, ◌⊎◌, inl, inr, Bool, true, false, cond, not, List, [], ◌∷◌, length, map, filter, find, sum_by, Contains, Option, Some, None, slice_get, refl, sym, ap, subst, ◌∙◌, arith, eq-eqb, ne_eqb}
use Rattle.std.specs.Option.{option_map, option_and_then}
use Rattle.std.specs.Prelude.{count_by}
use Rattle.std.proofs.lemmas.Bool.{cases_eq, cases_lt, eqb-true}
use Rattle.std.proofs.lemmas.Option.{same_Some}
use Rattle.jk_model.specs.declared.identifiers.CapId.{CapId}
use Rattle.jk_model.specs.declared.identifiers.ClassId.{ClassId}
use Rattle.jk_model.specs.declared.identifiers.DomainId.{DomainId}
use Rattle.jk_model.specs.declared.identifiers.SegmentNo.{SegmentNo}
use Rattle.jk_model.specs.declared.identifiers.ThreadNo.{ThreadNo}
use Rattle.jk_model.specs.declared.output.Line.{Line}
use Rattle.jk_model.specs.declared.script.Quotas.{Quotas}
use Rattle.jk_model_classes.specs.Stubs.{ImplementsRemote}
use Rattle.jk_model_domains.specs.declared.states.ClassState.TheVariants as State
use Rattle.jk_model_domains.specs.Objects.{Task}
use Rattle.jk_model_domains.specs.OwnStates.{state_of}
use Rattle.jk_model_frames.specs.Frames.{FrameState}
use Rattle.jk_model_heaps.specs.Capabilities.{CapRange, Capability, IsGivenOut, OwnedCapability, capability_in, has_number}
use Rattle.jk_model_heaps.specs.Workings.{Inside}
use Rattle.jk_model_sealing.specs.ClassesInProgress.{initialises, progress_by}
use Rattle.jk_model_sealing.specs.SealedInsides.{IsOfClass}
use Rattle.jk_model_sealing.specs.SealedRuns.{AreSealedFrames}
use Rattle.jk_model_sharing.specs.BoundNames.{BoundName, count_bound_by, without_names_of}
use Rattle.jk_model_sharing.specs.CapabilityCalls.{all_revoked, revoked_capability}
use Rattle.jk_model_sharing.specs.Segments.{changed, is_of, segments_left, with_revoked}
use Rattle.jk_model_machine_state.specs.Machines.{DomainState, IsLiveThread, Machine, Segment, Thread, caps_of, chunks_of, chunks_used, segment_form, started_in}
use Rattle.jk_model_machine_state.specs.Places.{LiveDomain}
use Rattle.jk_model_crossings.specs.DomainEnds.{Terminates, ended_domain, has_segments}
use Rattle.jk_model_runs.specs.AnsweredCalls.{AreCallsAnswered, SegmentsAnswer}
use Rattle.jk_model_runs.specs.Sealed.{AreSealedThreads, CallerFits, IsSealed, SegmentsFit, TopFits, initialisers_of, is_stand_in, segment_initialisers, surroundings}
use Rattle.list_lemmas.proofs.ItemsByPlace.{comes_from, mapped_at}
use Rattle.list_lemmas.proofs.ItemsOfLists.{Contains-at, place_of}
use Rattle.list_lemmas.proofs.TestsAndOrders.{so_not}
use Rattle.machine_laws.proofs.ChangedItems.{as_many, as_many_pass}
use Rattle.machine_laws.proofs.DomainsChanged.{ChangesDomains, capabilities_changed, domains_changed, each, frames_more, heap_places_changed, stack_places_changed}
use Rattle.machine_laws.proofs.FilteredItems.{fewer_pass, filtered_from, filtered_passes, found_still, stand_in_order, sum_less}
use Rattle.machine_laws.proofs.InitialisersAfterRuns.{found_still as found_mapped, progress_is}
use Rattle.machine_laws.proofs.RunningSegmentsFit.{frames_weaker}
use Rattle.machine_laws.proofs.SegmentsCut.{CountsFrames, numbers_differ, sums_less, sums_same, was_there}
use Rattle.machine_laws.proofs.SegmentsCutFit.{FitsOn, left_answer, left_fit}
use Rattle.machine_laws.proofs.ThreadsThinned.{sums_no_more}

-- ---- What becomes of domains.

abbrev ends : DomainId → DomainState → DomainState
ends n e = cond (e.number.0 == n.0) (ended_domain e) e

module _ (n : DomainId) where
  part_by : {X : Type 0} (part : DomainState → X) → ((e : DomainState) → part (ended_domain e) ≡ part e) → (b : Bool) (e : DomainState)
      → part (cond b (ended_domain e) e) ≡ part e
  part_by part h true e = h e
  part_by part h false e = refl

  part_stays : {X : Type 0} (part : DomainState → X) → ((e : DomainState) → part (ended_domain e) ≡ part e) → (e : DomainState)
      → part (ends n e) ≡ part e
  part_stays part h e = part_by part h (e.number.0 == n.0) e

  inside_by : (b : Bool) (e : DomainState) (x : Inside) → (cond b (ended_domain e) e).inside ≡ Some x → e.inside ≡ Some x
  inside_by true e x is = absurd cc
  inside_by false e x is = is

  -- one that has something inside isn't the one that ended
  lives_by : (b : Bool) (e : DomainState) (x : Inside) → (e.number.0 == n.0) ≡ b → (cond b (ended_domain e) e).inside ≡ Some x → e.number.0 ≢ n.0
  lives_by true e x same is one = absurd cc
  lives_by false e x same is one = let both : true ≡ false = sym (eq-eqb e.number.0 n.0 one) ∙ same in absurd cc

  -- ---- Capabilities: each is there still, revoked or as it was.

  made_from : (made : List Capability) (c : Capability) → Contains (map revoked_capability made) c → (b : Capability) × Contains made b
      × (c.class ≡ b.class) × (c.revoked ≡ true)
  made_from made c has =
      let at = place_of (map revoked_capability made) c has in
      let from = comes_from revoked_capability made at.0 c at.1 in (
        from.from,
        Contains-at made at.0 from.from from.there,
        ap (λ (x : Capability). x.class) (sym from.gives),
        ap (λ (x : Capability). x.revoked) (sym from.gives),
      )

  range_by : Bool → CapRange → CapRange
  range_by b r = cond b (all_revoked r) r

  in_range : (b : Bool) (r : CapRange) (k : CapId) (c : OwnedCapability) → capability_in k r ≡ Some c → (d : OwnedCapability)
      × (capability_in k (cond b (all_revoked r) r) ≡ Some d)
  in_range false r k c is = (c, is)
  in_range true r k c is = by (slice_get r.made (k.0 - r.first)) refl is
    where
      by : (o : Option Capability) → slice_get r.made (k.0 - r.first) ≡ o
          → option_map (λ (x : Capability). record { owner = r.owner; capability = x }) o ≡ Some c
          → (d : OwnedCapability) × (capability_in k (all_revoked r) ≡ Some d)
      by None at e = absurd cc
      by (Some x) at e = (
        record { owner = r.owner; capability = revoked_capability x },
        ap (option_map (λ (y : Capability). record { owner = r.owner; capability = y }))
            (mapped_at revoked_capability r.made (k.0 - r.first) x at),
      )

  number_by : (b : Bool) (r : CapRange) (k : CapId) → has_number k (cond b (all_revoked r) r) ≡ has_number k r
  number_by true r k = refl
  number_by false r k = refl

  caps_by : (b : Bool) (e : DomainState) → (cond b (ended_domain e) e).caps ≡ cond b (all_revoked e.caps) e.caps
  caps_by true e = refl
  caps_by false e = refl

  given_here : (k : CapId) (c : OwnedCapability) (e : DomainState) (domains : List DomainState) (b a f : Bool) → f ≡ a
      → (option_and_then (capability_in k) (find (has_number k) (map (λ (x : DomainState). x.caps) domains)) ≡ Some c
      → IsGivenOut (map (λ (x : DomainState). x.caps) (map (ends n) domains)) k)
      → option_and_then (capability_in k) (cond a (Some e.caps) (find (has_number k) (map (λ (x : DomainState). x.caps) domains))) ≡ Some c
      → (d : OwnedCapability)
      × (option_and_then (capability_in k)
      (cond f (Some (cond b (ended_domain e) e).caps) (find (has_number k) (map (λ (x : DomainState). x.caps) (map (ends n) domains))))
      ≡ Some d)
  given_here k c e domains b true true same later is =
      let found = in_range b e.caps k c is in
      (found.0, ap (capability_in k) (caps_by b e) ∙ found.1)
  given_here k c e domains b false false same later is = later is
  given_here k c e domains b true false same later is = absurd cc
  given_here k c e domains b false true same later is = absurd cc

  given_by : (k : CapId) (c : OwnedCapability) (domains : List DomainState)
      → option_and_then (capability_in k) (find (has_number k) (map (λ (e : DomainState). e.caps) domains)) ≡ Some c
      → IsGivenOut (map (λ (e : DomainState). e.caps) (map (ends n) domains)) k
  given_by k c [] is = absurd cc
  given_by k c (e ∷ domains) is =
      given_here k c e domains (e.number.0 == n.0) (has_number k e.caps) (has_number k (ends n e).caps)
      (ap (has_number k) (caps_by (e.number.0 == n.0) e) ∙ number_by (e.number.0 == n.0) e.caps k) (given_by k c domains) is

-- ---- In a sealed machine.

module _ (m : Machine) (sealed : IsSealed m) (n : DomainId) where
  -- a stand-in is one still: it is dead, and its capability is of the same class
  stand_by : (b : Bool) (e : DomainState) → is_stand_in m.classes (cond b (ended_domain e) e) ≡ false → is_stand_in m.classes e ≡ false
  stand_by false e h = h
  stand_by true e h = by e.inside e.caps.made refl refl h
    where
      by : (o : Option Inside) (made : List Capability) → e.inside ≡ o → e.caps.made ≡ made → is_stand_in m.classes (ended_domain e) ≡ false
          → is_stand_in m.classes e ≡ false
      by (Some x) made is are h = ap (λ (y : Option Inside). is_stand_in m.classes (record e { inside = y })) is
      by None [] is are h =
          ap (λ (y : Option Inside). is_stand_in m.classes (record e { inside = y })) is
          ∙ ap (λ (cs : List Capability). is_stand_in m.classes (record e { inside = None; caps = record e.caps { made = cs } })) are
      by None (c ∷ []) is are h =
          ap (λ (y : Option Inside). is_stand_in m.classes (record e { inside = y })) is
          ∙ ap (λ (cs : List Capability). is_stand_in m.classes (record e { inside = None; caps = record e.caps { made = cs } })) are
          ∙ sym (ap (λ (cs : List Capability). is_stand_in m.classes (record e { inside = None; caps = record e.caps { made = map revoked_capability cs } })) are)
          ∙ h
      by None (c ∷ d ∷ made) is are h =
          ap (λ (y : Option Inside). is_stand_in m.classes (record e { inside = y })) is
          ∙ ap (λ (cs : List Capability). is_stand_in m.classes (record e { inside = None; caps = record e.caps { made = cs } })) are

  within_by : (b : Bool) (e : DomainState) → length e.caps.made ≤ e.caps.count → length (cond b (ended_domain e) e).caps.made ≤ e.caps.count
  within_by true e h = let same = as_many revoked_capability e.caps.made in omega (arith, h, same)
  within_by false e h = h

  remote_by : (b : Bool) (e : DomainState) (c : Capability) → Contains m.domains e → is_stand_in m.classes (cond b (ended_domain e) e) ≡ false
      → Contains (cond b (ended_domain e) e).caps.made c → ImplementsRemote m.classes c.class
  remote_by false e c on stands has = sealed.capabilities.remote e c on stands has
  remote_by true e c on stands has =
      let from = made_from n e.caps.made c has in
      subst (ImplementsRemote m.classes) (sym from.2) (sealed.capabilities.remote e from.0 on (stand_by true e stands) from.1)

  targets_by : (b : Bool) (e : DomainState) (c : Capability) → Contains m.domains e → Contains (cond b (ended_domain e) e).caps.made c
      → c.revoked ≡ false → (x : Inside) × ((cond b (ended_domain e) e).inside ≡ Some x) × IsOfClass x.heap c.target c.class
  targets_by false e c on has live = sealed.capabilities.targets e c on has live
  targets_by true e c on has live =
      let from = made_from n e.caps.made c has in
      let both : true ≡ false = sym from.3 ∙ live in
      absurd cc

  changes : ChangesDomains m (ends n)
  changes = record {
    number = part_stays n (λ (e : DomainState). e.number) (λ e. refl);
    name = part_stays n (λ (e : DomainState). e.name) (λ e. refl);
    quotas = part_stays n (λ (e : DomainState). e.quotas) (λ e. refl);
    steps_left = part_stays n (λ (e : DomainState). e.steps_left) (λ e. refl);
    table = part_stays n (λ (e : DomainState). e.table) (λ e. refl);
    inside = λ e x is. inside_by n (e.number.0 == n.0) e x is;
    owner = part_stays n (λ (e : DomainState). e.caps.owner) (λ e. refl);
    first = part_stays n (λ (e : DomainState). e.caps.first) (λ e. refl);
    count = part_stays n (λ (e : DomainState). e.caps.count) (λ e. refl);
    within = λ e on. within_by (e.number.0 == n.0) e (sealed.capabilities.within e on);
    given_out = λ k given. given_by n k given.0 m.domains given.1;
    stand_ins = λ e on stands. stand_by (e.number.0 == n.0) e stands;
    remote = λ e c on stands has. remote_by (e.number.0 == n.0) e c on stands has;
    targets = λ e c on has live. targets_by (e.number.0 == n.0) e c on has live;
  }

  abbrev cut : Thread → Thread
  cut e = record e { segments = segments_left segment_form n e.segments }

  abbrev cut_threads : List Thread
  cut_threads = map cut m.threads

  abbrev ended : Machine
  ended = record m {
    domains = map (ends n) m.domains;
    names = without_names_of n m.names;
    threads = filter has_segments cut_threads;
  }

  -- ---- Which thread stood there.

  record WasThread (e : Thread) : Type 0 where
    before : Thread
    there : Contains m.threads before
    is : cut before ≡ e
    some : has_segments e ≡ true

  was_thread : (e : Thread) → Contains ended.threads e → WasThread e
  was_thread e on =
      let at = place_of cut_threads e (filtered_from has_segments cut_threads e on) in
      let from = comes_from cut m.threads at.0 e at.1 in
      record {
        before = from.from;
        there = Contains-at m.threads at.0 from.from from.there;
        is = from.gives;
        some = filtered_passes has_segments cut_threads e on;
      }

  each_thread : (P : Thread → Type 0) → ((e : Thread) → Contains m.threads e → has_segments (cut e) ≡ true → P (cut e)) → (e : Thread)
      → Contains ended.threads e → P e
  each_thread P holds e on =
      let was = was_thread e on in
      subst P was.is (holds was.before was.there (ap has_segments was.is ∙ was.some))

  -- ---- Costs.

  chunks_count : (d : DomainId) → CountsFrames n (chunks_of d)
  chunks_count d = record { orphan = λ s. refl; revoked = λ s. refl }

  at_most : (a b c : ℕ) → a ≤ b → b ≤ c → a ≤ c
  at_most a b c less more = omega arith

  chunks_less : (d : DomainId) → chunks_used ended d ≤ chunks_used m d
  chunks_less d =
      at_most _ _ _ (sum_less has_segments (λ (e : Thread). sum_by (chunks_of d) e.segments) cut_threads)
      (sums_no_more cut (λ (e : Thread). sum_by (chunks_of d) e.segments) m.threads (λ e on. sums_less n (chunks_of d) (chunks_count d) e.segments))

  started_less : (d : DomainId) → started_in ended d ≤ started_in m d
  started_less d =
      at_most _ _ _ (fewer_pass has_segments (λ (e : Thread). e.domain.0 == d.0) cut_threads)
      (let same = as_many_pass cut (λ (e : Thread). e.domain.0 == d.0) m.threads (λ e on. refl) in omega (arith, same))

  -- ---- Domains that live on, and segments there.

  other_live : (k : DomainId) → k.0 ≢ n.0 → LiveDomain m k → LiveDomain ended k
  other_live k differ l = record {
    domain = l.domain;
    is_domain = mapped_at (ends n) m.domains k.0 l.domain l.is_domain ∙ ap (λ (e : DomainState). Some e) (kept (l.domain.number.0 == n.0) other);
    numbered = l.numbered;
    inside = l.inside;
    is_inside = l.is_inside;
  }
    where
      other : (l.domain.number.0 == n.0) ≡ false
      other = ne_eqb l.domain.number.0 n.0 (λ same. differ (sym (ap (λ (x : DomainId). x.0) l.numbered) ∙ same))

      kept : (b : Bool) → b ≡ false → cond b (ended_domain l.domain) l.domain ≡ l.domain
      kept true e = absurd cc
      kept false e = refl

  frames_there : (k : DomainId) (l : LiveDomain m k) (Top : FrameState → Type 0) (frames : List FrameState)
      → AreSealedFrames (surroundings m l.domain) Top l.inside.heap frames → AreSealedFrames (surroundings ended l.domain) Top l.inside.heap frames
  frames_there k l Top frames h =
      frames_more m.classes l.domain.table (caps_of m) (caps_of ended) (λ k given. given_by n k given.0 m.domains given.1) Top l.inside.heap frames h

  apart : (s : Segment) → is_of segment_form n s ≡ false → s.shared.domain.0 ≢ n.0
  apart s none same = never (is_of segment_form n s) none (eq-eqb s.shared.domain.0 n.0 same)
    where
      never : (b : Bool) → b ≡ false → b ≡ true → ⊥
      never b e h = cc

  fits_on : FitsOn n m ended
  unfolding other_live
  fits_on = record {
    top = λ s other h. record {
      home = other_live s.shared.domain (apart s other) h.home;
      frames = frames_there s.shared.domain h.home (TopFits m h.home.inside s) s.frames h.frames;
    };
    caller = λ s other h. record {
      home = other_live s.shared.domain (apart s other) h.home;
      frames = frames_there s.shared.domain h.home (CallerFits m h.home.inside) s.frames h.frames;
    };
    left = λ s other h. record {
      home = other_live s.shared.domain (apart s other) h.home;
      frames = frames_weaker (surroundings ended h.home.domain) h.home.inside.heap (CallerFits m h.home.inside)
          (TopFits m h.home.inside (changed segment_form (with_revoked true) s)) (λ f call. inr (refl, call)) s.frames
          (frames_there s.shared.domain h.home (CallerFits m h.home.inside) s.frames h.frames);
    };
    top_orphan = λ s h. record { home = h.home; frames = h.frames };
    caller_orphan = λ s h. record { home = h.home; frames = h.frames };
  }

  -- ---- Threads.

  left_some : (e : Thread) → has_segments (cut e) ≡ true
      → (segments_left segment_form n e.segments ≡ []) ⊎ SegmentsFit ended (segments_left segment_form n e.segments)
      → SegmentsFit ended (segments_left segment_form n e.segments)
  left_some e some (inl none) =
      let both : has_segments (cut e) ≡ false = ap (λ (ss : List Segment). has_segments (record e { segments = ss })) none in
      let never : true ≡ false = sym some ∙ both in
      absurd cc
  left_some e some (inr fit) = fit

  rising : (i j : ℕ) (a b : Thread) → i < j → slice_get ended.threads i ≡ Some a → slice_get ended.threads j ≡ Some b → a.number.0 < b.number.0
  rising i j a b less at there =
      let o = stand_in_order has_segments cut_threads i j a b less at there in
      let x = comes_from cut m.threads o.first a o.at in
      let y = comes_from cut m.threads o.second b o.there in
      moved a.number.0 b.number.0 x.from.number.0 y.from.number.0 (sealed.threads.rise o.first o.second x.from y.from o.less x.there y.there)
      (ap (λ (e : Thread). e.number.0) (sym x.gives)) (ap (λ (e : Thread). e.number.0) (sym y.gives))
    where
      moved : (a b c d : ℕ) → c < d → a ≡ c → b ≡ d → a < b
      moved a b c d less left right = omega arith

  differing : (i j k l : ℕ) (a b : Thread) (s u : Segment) → i < j → slice_get ended.threads i ≡ Some a → slice_get ended.threads j ≡ Some b
      → slice_get a.segments k ≡ Some s → slice_get b.segments l ≡ Some u → s.shared.number ≡ u.shared.number → ⊥
  differing i j k l a b s u less at there s_at u_at same =
      let o = stand_in_order has_segments cut_threads i j a b less at there in
      let x = comes_from cut m.threads o.first a o.at in
      let y = comes_from cut m.threads o.second b o.there in
      let v = was_there n x.from.segments s
      (Contains-at (cut x.from).segments k s (ap (λ (e : Thread). slice_get e.segments k) x.gives ∙ s_at)) in
      let w = was_there n y.from.segments u
      (Contains-at (cut y.from).segments l u (ap (λ (e : Thread). slice_get e.segments l) y.gives ∙ u_at)) in
      let v_at = place_of x.from.segments v.before v.there in
      let w_at = place_of y.from.segments w.before w.there in
      let both = (sealed.threads.segments_differ o.first o.second v_at.0 w_at.0 x.from y.from v.before w.before x.there y.there v_at.1 w_at.1
      (sym v.is.number ∙ same ∙ w.is.number)).0 in
      let first_less = o.less in
      omega (arith, first_less, both)

  own_differ : (e : Thread) → Contains m.threads e → (k l : ℕ) (s u : Segment) → slice_get (cut e).segments k ≡ Some s
      → slice_get (cut e).segments l ≡ Some u → s.shared.number ≡ u.shared.number → k ≡ l
  own_differ e on =
      let at = place_of m.threads e on in
      numbers_differ n e.segments
      (λ k l s u s_at u_at same. (sealed.threads.segments_differ at.0 at.0 k l e e s u at.1 at.1 s_at u_at same).1)

  segments_differ : (i j k l : ℕ) (a b : Thread) (s u : Segment) → slice_get ended.threads i ≡ Some a → slice_get ended.threads j ≡ Some b
      → slice_get a.segments k ≡ Some s → slice_get b.segments l ≡ Some u → s.shared.number ≡ u.shared.number → (i ≡ j) × (k ≡ l)
  segments_differ i j k l a b s u at there s_at u_at same = elim (cases_eq i j) [
    | inl one ↦
        let thread : a ≡ b = same_Some a b (sym at ∙ ap (slice_get ended.threads) one ∙ there) in
        let was = was_thread a (Contains-at ended.threads i a at) in (
          one,
          own_differ was.before was.there k l s u (ap (λ (e : Thread). slice_get e.segments k) was.is ∙ s_at)
              (ap (λ (e : Thread). slice_get e.segments l) (was.is ∙ thread) ∙ u_at) same,
        )
    | inr differ ↦ elim (cases_lt i j) [
      | inl less ↦ absurd (differing i j k l a b s u less at there s_at u_at same)
      | inr more ↦ absurd (differing j i l k b a u s (omega (arith, more, differ)) there at u_at s_at (sym same))
    ]
  ]

  threads_sealed : AreSealedThreads ended
  threads_sealed = record {
    segments = each_thread (λ e. SegmentsFit ended e.segments)
        (λ e on some. left_some e some (left_fit n m ended fits_on e.segments (sealed.threads.segments e on)));
    rise = rising;
    before = each_thread (λ e. (1 ≤ e.number.0) × (e.number.0 < m.next_thread)) (λ e on some. sealed.threads.before e on);
    first_numbers = sealed.threads.first_numbers;
    segments_before = λ e s.
        each_thread (λ e. Contains e.segments s → (1 ≤ s.shared.number.0) × (s.shared.number.0 < m.next_segment))
        (λ e on some of.
        let v = was_there n e.segments s of in
        subst (λ (k : SegmentNo). (1 ≤ k.0) × (k.0 < m.next_segment)) (sym v.is.number) (sealed.threads.segments_before e v.before on v.there)) e;
    segments_differ = segments_differ;
  }

  -- ---- Classes in progress.

  nothing_by : (b : Bool) (k : ℕ) → b ≡ false → cond b k 0 ≡ 0
  nothing_by true k e = absurd cc
  nothing_by false k e = refl

  initialisers_left : (d : DomainId) (c : ClassId) (e : Thread) → d.0 ≢ n.0 → initialisers_of d c (cut e) ≡ initialisers_of d c e
  initialisers_left d c e differ =
      sums_same n (segment_initialisers d c) (record { orphan = λ s. refl; revoked = λ s. refl })
      (λ s of.
      nothing_by (s.shared.domain.0 == d.0) (count_by (initialises c) s.frames)
      (ne_eqb s.shared.domain.0 d.0 (λ same. differ (sym same ∙ eqb-true s.shared.domain.0 n.0 of)))) e.segments

  -- a domain that has something inside had it, and is another one
  each_inside : (P : DomainState → Inside → Type 0)
      → ((e : DomainState) (x : Inside) → Contains m.domains e → e.number.0 ≢ n.0 → e.inside ≡ Some x → P (ends n e) x) → (d : DomainState) (x : Inside)
      → Contains ended.domains d → d.inside ≡ Some x → P d x
  each_inside P holds d x on is =
      let at = place_of ended.domains d on in
      let from = comes_from (ends n) m.domains at.0 d at.1 in
      let here : (ends n from.from).inside ≡ Some x = ap (λ (e : DomainState). e.inside) from.gives ∙ is in
      subst (λ (e : DomainState). P e x) from.gives
      (holds from.from x (Contains-at m.domains at.0 from.from from.there) (lives_by n (from.from.number.0 == n.0) from.from x refl here)
      (inside_by n (from.from.number.0 == n.0) from.from x here))

  number_is : (e : DomainState) → (ends n e).number ≡ e.number
  number_is = part_stays n (λ (e : DomainState). e.number) (λ e. refl)

  still_some : (d : DomainId) (c : ClassId) (e : Thread) → d.0 ≢ n.0 → initialisers_of d c e ≡ 1 → has_segments (cut e) ≡ true
  still_some d c e differ one = by (segments_left segment_form n e.segments) refl
    where
      by : (left : List Segment) → segments_left segment_form n e.segments ≡ left → has_segments (cut e) ≡ true
      by [] is =
          let all = initialisers_left d c e differ in
          let none : initialisers_of d c (cut e) ≡ 0 = ap (sum_by (segment_initialisers d c)) is in
          absurd (omega (arith, one, all, none))
      by (s ∷ left) is = ap (λ (ss : List Segment). has_segments (record e { segments = ss })) is

  live_there : (e : DomainState) (x : Inside) (c : ClassId) (u : ThreadNo) → Contains m.domains e → e.number.0 ≢ n.0 → e.inside ≡ Some x
      → state_of x.own c ≡ State.InProgress u → IsLiveThread ended u
  live_there e x c u on differ is state =
      let was = sealed.initialisers.live e x c u on is state in (
        cut was.0,
        found_still has_segments (λ (y : Thread). y.number.0 == u.0) cut_threads stays
            ∙ found_mapped cut (λ (y : Thread). y.number.0 == u.0) (λ y. refl) m.threads ∙ ap (option_map cut) was.1,
      )
    where
      stays : (y : Thread) → Contains cut_threads y → (y.number.0 == u.0) ≡ true → has_segments y ≡ true
      stays y there same =
          let at = place_of cut_threads y there in
          let from = comes_from cut m.threads at.0 y at.1 in
          let thread = Contains-at m.threads at.0 from.from from.there in
          let number : u.0 ≡ from.from.number.0 =
          sym (eqb-true y.number.0 u.0 same) ∙ ap (λ (z : Thread). z.number.0) (sym from.gives) in
          let all = sealed.initialisers.one from.from e x c thread on is in
          let one = progress_is from.from.number x.own c u state number in
          ap has_segments (sym from.gives) ∙ still_some e.number c from.from differ (all ∙ one)

  -- ---- Names.

  name_was : (b : BoundName) → Contains ended.names b → Contains m.names b
  name_was b on = filtered_from (λ (x : BoundName). not (x.binder.0 == n.0)) m.names b on

  other_binder : (b : BoundName) → Contains ended.names b → b.binder.0 ≢ n.0
  other_binder b on same =
      so_not (b.binder.0 == n.0) (filtered_passes (λ (x : BoundName). not (x.binder.0 == n.0)) m.names b on) (eq-eqb b.binder.0 n.0 same)

  texts_apart : (i j : ℕ) (a b : BoundName) → i < j → slice_get ended.names i ≡ Some a → slice_get ended.names j ≡ Some b → a.text ≡ b.text → ⊥
  texts_apart i j a b less at there same =
      let o = stand_in_order (λ (x : BoundName). not (x.binder.0 == n.0)) m.names i j a b less at there in
      let both = sealed.names.differ o.first o.second a b o.at o.there same in
      let first_less = o.less in
      omega (arith, first_less, both)

  texts_differ : (i j : ℕ) (a b : BoundName) → slice_get ended.names i ≡ Some a → slice_get ended.names j ≡ Some b → a.text ≡ b.text → i ≡ j
  texts_differ i j a b at there same = elim (cases_eq i j) [
    | inl one ↦ one
    | inr differ ↦ elim (cases_lt i j) [
      | inl less ↦ absurd (texts_apart i j a b less at there same)
      | inr more ↦ absurd (texts_apart j i b a (omega (arith, more, differ)) there at (sym same))
    ]
  ]

  -- ---- The whole machine.

  pub ended_sealed : IsSealed ended
  ended_sealed = record {
    domains = domains_changed m sealed (ends n) changes ended.names ended.threads chunks_less started_less;
    heap_places = heap_places_changed m sealed (ends n) changes ended.names ended.threads;
    stack_places = stack_places_changed m sealed (ends n) changes ended.names ended.threads;
    capabilities = capabilities_changed m sealed (ends n) changes ended.names ended.threads;
    names = record {
      given_out = λ b on.
          let given = sealed.names.given_out b (name_was b on) in given_by n b.cap given.0 m.domains given.1;
      binders = λ b on. other_live b.binder (other_binder b on) (sealed.names.binders b (name_was b on));
      short = λ b on. sealed.names.short b (name_was b on);
      differ = texts_differ;
      within = each m sealed (ends n) changes ended.names ended.threads (λ d. count_bound_by ended.names d.number ≤ d.quotas.names)
          (λ e on.
          subst (λ (k : DomainId). count_bound_by ended.names k ≤ (ends n e).quotas.names) (sym (number_is e))
          (subst (λ (q : Quotas). count_bound_by ended.names e.number ≤ q.names) (sym (changes.quotas e))
          (at_most _ _ _ (fewer_pass (λ (x : BoundName). not (x.binder.0 == n.0)) (λ (x : BoundName). x.binder.0 == e.number.0) m.names)
          (sealed.names.within e on))));
    };
    threads = threads_sealed;
    tasks = record {
      given_out = λ d inside a k on is there.
          each_inside
          (λ d x. Contains x.heap (record { name = a; object = Task k }) → (1 ≤ k.0) × (k.0 < m.next_segment))
          (λ e x there_is other has. sealed.tasks.given_out e x a k there_is has) d inside on is there;
      own = λ d inside a thread s on is task of_thread of.
          each_inside (λ d x. Contains x.heap (record { name = a; object = Task s.shared.number }) → s.shared.domain ≡ d.number)
          (λ e x there_is other has.
          each_thread (λ t. Contains t.segments s → Contains x.heap (record { name = a; object = Task s.shared.number })
          → s.shared.domain ≡ (ends n e).number)
          (λ t t_there some of_t task_there.
          let v = was_there n t.segments s of_t in
          v.is.domain
          ∙ sealed.tasks.own e x a t v.before there_is has
          (subst (λ (k : SegmentNo). Contains x.heap (record { name = a; object = Task k })) v.is.number task_there) t_there v.there
          ∙ sym (number_is e)) thread of_thread of) d inside on is task;
    };
    initialisers = record {
      one = λ thread d inside c of_thread on is.
          each_inside (λ d x. initialisers_of d.number c thread ≡ progress_by thread.number x.own c)
          (λ e x there_is other has.
          each_thread (λ t. initialisers_of (ends n e).number c t ≡ progress_by t.number x.own c)
          (λ t t_there some.
          ap (λ (k : DomainId). initialisers_of k c (cut t)) (number_is e) ∙ initialisers_left e.number c t other
          ∙ sealed.initialisers.one t e x c t_there there_is has) thread of_thread) d inside on is;
      live = λ d inside c u on is state.
          each_inside (λ d x. state_of x.own c ≡ State.InProgress u → IsLiveThread ended u)
          (λ e x there_is other has state_is. live_there e x c u there_is other has state_is) d inside on is state;
    };
  }

-- ---- Calls stay answered.

pub ended_answered : (m : Machine) (n : DomainId) (names : List BoundName) (domains : List DomainState) → AreCallsAnswered m
    → AreCallsAnswered
    (record m {
      domains = domains;
      names = names;
      threads = filter has_segments (map (λ (e : Thread). record e { segments = segments_left segment_form n e.segments }) m.threads);
    })
ended_answered m n names domains h = record {
  segments = λ e on.
      let there = filtered_from has_segments (map (λ (e : Thread). record e { segments = segments_left segment_form n e.segments }) m.threads) e on in
      let at = place_of (map (λ (e : Thread). record e { segments = segments_left segment_form n e.segments }) m.threads) e there in
      let from = comes_from (λ (e : Thread). record e { segments = segments_left segment_form n e.segments }) m.threads at.0 e at.1 in
      subst (λ (x : Thread). SegmentsAnswer m.classes x.segments) from.gives
      (left_answer n m.classes from.from.segments (h.segments from.from (Contains-at m.threads at.0 from.from from.there)));
}

-- ---- The law.

leads_to : (m new : Machine) (d : DomainState) (lines : List Line) → Terminates m d lines new
    → new
    ≡ record m {
      domains = map (ends d.number) m.domains;
      names = without_names_of d.number m.names;
      threads = filter has_segments (map (λ (e : Thread). record e { segments = segments_left segment_form d.number e.segments }) m.threads);
    }
leads_to m new d lines h =
    h.leads ∙ ap (λ (x : Machine). record x { names = without_names_of d.number x.names; threads = filter has_segments x.threads }) h.is_cut

pub ends_sealed : (m new : Machine) (d : DomainState) (lines : List Line) → IsSealed m → Terminates m d lines new → IsSealed new
ends_sealed m new d lines sealed h = subst IsSealed (sym (leads_to m new d lines h)) (ended_sealed m sealed d.number)

pub ends_answered : (m new : Machine) (d : DomainState) (lines : List Line) → AreCallsAnswered m → Terminates m d lines new → AreCallsAnswered new
ends_answered m new d lines answered h =
    subst AreCallsAnswered (sym (leads_to m new d lines h))
    (ended_answered m d.number (without_names_of d.number m.names) (map (ends d.number) m.domains) answered)
