-- What domains share stays sound where a domain ends.
use Rattle.std.proofs.Common.{◌≡◌, ◌+◌, ◌≤◌, inl, inr, Bool, true, false, List, [], ◌∷◌, length, filter, map, take, Some, Contains, refl, sym, ap, subst, ◌∙◌, arith}
use Rattle.std.specs.Prelude.{◌==◌, if◌then◌else◌, not, option_map}
use Rattle.std.proofs.lemmas.Bool.{cases_Bool, eq-eqb, eqb-true, ne_eqb}
use Rattle.std.proofs.lemmas.List.{length-map}
use Rattle.jk_model.specs.declared.identifiers.ClassId.{ClassId}
use Rattle.jk_model.specs.declared.identifiers.DomainId.{DomainId}
use Rattle.jk_model_classes.specs.declared.sharing.Stub.{Stub}
use Rattle.jk_model_heaps.specs.Capabilities.{CapRange, Capability, IsGivenOut}
use Rattle.jk_model_sharing.specs.BoundNames.{BoundName, count_bound_by}
use Rattle.jk_model_sharing.specs.CapabilityCalls.{all_revoked, count_numbers, revoked_capability}
use Rattle.jk_model_sharing.specs.Segments.{SharedSegment, SharedThread, as_orphan, changed, count_segments_of, count_started_in, has_segments, is_of, left_above, live_threads, segments_left, shared_form, top_is_of, with_revoked, with_segments, with_stacks, with_top}
use Rattle.jk_model_sharing.specs.SharedStates.{Drops, SharedDomain, SharedState, domain_numbered, ranges_of, stub_for}
use Rattle.list_lemmas.proofs.ItemsByPlace.{comes_from}
use Rattle.list_lemmas.proofs.ItemsOfLists.{Contains-cases, Contains-flat_map_from, Contains-here, Contains-none, Contains-there}
use Rattle.thread_segments.specs.Asked.{IsAdmitted, IsLiveDomain}
use Rattle.thread_segments.specs.SoundStates.{AreSound, IsWithin, all_segments}
use Rattle.thread_segments.proofs.Remaining.{Remains, changed_remain, filtered_remain, goes, nothing, remain_further, stays}
use Rattle.thread_segments.proofs.SoundDomains.{IsSoundDomain, Refits, found_mapped, one_changed, one_refits, refit, sound_domain, sound_one, was_mapped}
use Rattle.thread_segments.proofs.SoundGrowth.{found_domain}
use Rattle.thread_segments.proofs.SoundNames.{sound_without}
use Rattle.thread_stacks.specs.StackAnswers.{segments_in}
use Rattle.thread_stacks.proofs.CountedAlive.{live_segments}
use Rattle.thread_segments.proofs.SoundThreads.{Lessens, SameSegment, SameThread, live_have_segments, segments_lessened, thread_is, threads_changed}

-- ---- Segments of a domain go.

module _ (d : DomainId) where
  above_remains : (gap : Bool) (xs : List SharedSegment) → Remains SameSegment xs (left_above shared_form d gap xs)
  above_remains gap [] = nothing
  above_remains gap (x ∷ xs) = elim (cases_Bool (is_of shared_form d x)) [
    | inl hit ↦ rw hit (goes x xs (left_above shared_form d true xs) (above_remains true xs))
    | inr miss ↦ rw miss (stays x (if gap then as_orphan x else x) xs (left_above shared_form d false xs) (same gap x) (above_remains false xs))
  ]
    where
      same : (b : Bool) (y : SharedSegment) → SameSegment y (if b then as_orphan y else y)
      same true y = (refl, refl)
      same false y = (refl, refl)

  top_remains : (xs : List SharedSegment) → Remains SameSegment xs (with_top (changed shared_form (with_revoked true)) xs)
  top_remains [] = nothing
  top_remains (x ∷ []) = stays x (with_revoked true x) [] [] (refl, refl) nothing
  top_remains (x ∷ y ∷ more) =
      stays x x (y ∷ more) (with_top (changed shared_form (with_revoked true)) (y ∷ more)) (refl, refl) (top_remains (y ∷ more))

  same_further : (x y z : SharedSegment) → SameSegment x y → SameSegment y z → SameSegment x z
  same_further x y z a b = (a.0 ∙ b.0, a.1 ∙ b.1)

  left_remains : (xs : List SharedSegment) → Remains SameSegment xs (segments_left shared_form d xs)
  left_remains xs = elim (cases_Bool (top_is_of shared_form d xs)) [
    | inl hit ↦
        rw hit (remain_further SameSegment same_further xs (left_above shared_form d false xs)
        (with_top (changed shared_form (with_revoked true)) (left_above shared_form d false xs)) (above_remains false xs)
        (top_remains (left_above shared_form d false xs)))
    | inr miss ↦ rw miss (above_remains false xs)
  ]

  -- none that is left is the domain's
  above_others : (gap : Bool) (xs : List SharedSegment) (e : SharedSegment) → Contains (left_above shared_form d gap xs) e → e.domain.0 ≡ d.0 → ⊥
  above_others gap [] e there same = Contains-none e there
  above_others gap (x ∷ xs) e there same = elim (cases_Bool (is_of shared_form d x)) [
    | inl hit ↦ let later : Contains (left_above shared_form d true xs) e = rw hit at there in above_others true xs e later same
    | inr miss ↦
        let among : Contains ((if gap then as_orphan x else x) ∷ left_above shared_form d false xs) e = rw miss at there in
        elim (Contains-cases e (if gap then as_orphan x else x) (left_above shared_form d false xs) among) [
          | inl here ↦
              let home : x.domain.0 ≡ d.0 = domain_kept gap x ∙ ap (λ (y : SharedSegment). y.domain.0) here ∙ same in
              let never : false ≡ true = sym miss ∙ eq-eqb x.domain.0 d.0 home in
              absurd cc
          | inr later ↦ above_others false xs e later same
        ]
  ]
    where
      domain_kept : (b : Bool) (y : SharedSegment) → y.domain.0 ≡ (if b then as_orphan y else y).domain.0
      domain_kept true y = refl
      domain_kept false y = refl

  top_others : (xs : List SharedSegment) → ((e : SharedSegment) → Contains xs e → e.domain.0 ≡ d.0 → ⊥) → (e : SharedSegment)
      → Contains (with_top (changed shared_form (with_revoked true)) xs) e → e.domain.0 ≡ d.0 → ⊥
  top_others [] other e there same = Contains-none e there
  top_others (x ∷ []) other e there same = elim (Contains-cases e (with_revoked true x) [] there) [
    | inl here ↦ other x (Contains-here x []) (ap (λ (y : SharedSegment). y.domain.0) here ∙ same)
    | inr later ↦ Contains-none e later
  ]
  top_others (x ∷ y ∷ more) other e there same =
      elim (Contains-cases e x (with_top (changed shared_form (with_revoked true)) (y ∷ more)) there) [
        | inl here ↦ other x (Contains-here x (y ∷ more)) (ap (λ (z : SharedSegment). z.domain.0) here ∙ same)
        | inr later ↦ top_others (y ∷ more) (λ z among. other z (Contains-there z x (y ∷ more) among)) e later same
      ]

  pub left_others : (xs : List SharedSegment) (e : SharedSegment) → Contains (segments_left shared_form d xs) e → e.domain.0 ≡ d.0 → ⊥
  left_others xs e there = elim (cases_Bool (top_is_of shared_form d xs)) [
    | inl hit ↦
        top_others (left_above shared_form d false xs) (above_others false xs) e (rw hit at there)
    | inr miss ↦ above_others false xs e (rw miss at there)
  ]

  pub end_lessens : Lessens (with_segments (segments_left shared_form d))
  end_lessens = record { same = λ t. (refl, refl); less = λ t. left_remains t.segments }

-- ---- It isn't live any more.

abbrev ended : SharedDomain → SharedDomain
ended e = record e { live = false }

abbrev end_one : DomainId → SharedDomain → SharedDomain
end_one d e = if e.number.0 == d.0 then ended e else e

record SameBut (x e : SharedDomain) : Type 0 where
  number : e.number ≡ x.number
  quotas : e.quotas ≡ x.quotas
  steps_left : e.steps_left ≡ x.steps_left
  caps : e.caps ≡ x.caps

same_but : (d : DomainId) (x : SharedDomain) → SameBut x (end_one d x)
same_but d x = elim (cases_Bool (x.number.0 == d.0)) [
  | inl hit ↦ rw hit (record { number = refl; quotas = refl; steps_left = refl; caps = refl })
  | inr miss ↦ rw miss (record { number = refl; quotas = refl; steps_left = refl; caps = refl })
]

same_ranges : (d : DomainId) (domains : List SharedDomain) → ranges_of (map (end_one d) domains) ≡ ranges_of domains
same_ranges d [] = refl
same_ranges d (e ∷ domains) = rw ((same_but d e).caps, same_ranges d domains) refl

module _ (s : SharedState) (d : DomainId) (h : AreSound s) (no_names : (n : BoundName) → Contains s.names n → n.binder.0 ≡ d.0 → ⊥)
    (no_segments : (e : SharedSegment) → Contains (all_segments s) e → e.domain.0 ≡ d.0 → ⊥)
    (revoked : (e : SharedDomain) (c : Capability) → Contains s.domains e → e.number.0 ≡ d.0 → Contains e.caps.made c → c.revoked ≡ true) where
  abbrev after : SharedState
  after = record s { domains = map (end_one d) s.domains }

  found_after : (c : DomainId) → domain_numbered after c ≡ option_map (end_one d) (domain_numbered s c)
  found_after c =
      found_mapped (λ (e : SharedDomain). e.number.0 == c.0) (λ (e : SharedDomain). e.number.0 == c.0) (end_one d) s.domains
      (λ e. ap (λ (b : DomainId). b.0 == c.0) (same_but d e).number)

  still_live : (c : DomainId) → IsLiveDomain s c → (c.0 ≡ d.0 → ⊥) → IsLiveDomain after c
  still_live c (e, is, live) other =
      let number = (found_domain s c e is).1 in
      let miss : (e.number.0 == d.0) ≡ false = ne_eqb e.number.0 d.0 (λ same. other (sym number ∙ same)) in
      let stays : end_one d e ≡ e = rw miss refl in
      (e, found_after c ∙ ap (option_map (end_one d)) is ∙ ap Some stays, live)

  still_admitted : (c : DomainId) → IsAdmitted s c → IsAdmitted after c
  still_admitted c (e, is) = (end_one d e, found_after c ∙ ap (option_map (end_one d)) is)

  -- what holds of each domain as it was, whatever its flag, holds of it now
  each : (P : SharedDomain → Type 0) → ((x : SharedDomain) → Contains s.domains x → P (end_one d x)) → (e : SharedDomain) → Contains after.domains e → P e
  each P old e there = let w = was_mapped (end_one d) s.domains e there in subst P w.2 (old w.0 w.1)

  dead_after : (x : SharedDomain) (c : Capability) → Contains s.domains x → (end_one d x).live ≡ false → Contains (end_one d x).caps.made c
      → c.revoked ≡ true
  dead_after x c there gone made = elim (cases_Bool (x.number.0 == d.0)) [
    | inl hit ↦
        let P : CapRange → Type 0 = λ r. Contains r.made c in
        revoked x c there (eqb-true x.number.0 d.0 hit) (subst P (same_but d x).caps made)
    | inr miss ↦
        let P : CapRange → Type 0 = λ r. Contains r.made c in
        let dead : x.live ≡ false = rw miss at gone in
        h.ranges.dead x c there dead (subst P (same_but d x).caps made)
  ]

  pub sound_ended : AreSound after
  sound_ended = record {
    numbered =
        λ i e at.
        let c = comes_from (end_one d) s.domains i e at in
        ap (λ (x : SharedDomain). x.number.0) (sym c.gives) ∙ ap (λ (b : DomainId). b.0) (same_but d c.from).number ∙ h.numbered i c.from c.there;
    budgets =
        each (λ (e : SharedDomain). IsWithin e.quotas.steps e.steps_left)
        (λ x there. rw ((same_but d x).quotas, (same_but d x).steps_left) (h.budgets x there));
    next_thread = h.next_thread;
    next_segment = h.next_segment;
    ranges = record {
      owner = each (λ (e : SharedDomain). e.caps.owner ≡ e.number) (λ x there. rw ((same_but d x).caps, (same_but d x).number) (h.ranges.owner x there));
      count = each (λ (e : SharedDomain). e.caps.count ≡ e.quotas.caps) (λ x there. rw ((same_but d x).caps, (same_but d x).quotas) (h.ranges.count x there));
      chained =
          λ i e at.
          let c = comes_from (end_one d) s.domains i e at in
          ap (λ (x : SharedDomain). x.caps.first) (sym c.gives) ∙ ap (λ (r : CapRange). r.first) (same_but d c.from).caps
          ∙ h.ranges.chained i c.from c.there
          ∙ ap (λ (rs : List CapRange). 1 + count_numbers (take i rs)) (sym (same_ranges d s.domains));
      made = each (λ (e : SharedDomain). length e.caps.made ≤ e.caps.count) (λ x there. rw (same_but d x).caps (h.ranges.made x there));
      few = rw (same_ranges d s.domains) h.ranges.few;
      dead = λ e c there. each (λ (x : SharedDomain). x.live ≡ false → Contains x.caps.made c → c.revoked ≡ true) (λ x among. dead_after x c among) e there;
      have_stubs =
          λ e c there. each (λ (x : SharedDomain). Contains x.caps.made c → (stub : Stub) × (stub_for s c.class ≡ Some stub))
          (λ x among made. h.ranges.have_stubs x c among (let P : CapRange → Type 0 = λ r. Contains r.made c in subst P (same_but d x).caps made)) e there;
    };
    names = record {
      short = h.names.short;
      given_out =
          λ n there.
          let P : List CapRange → Type 0 = λ rs. IsGivenOut rs n.cap in
          subst P (sym (same_ranges d s.domains)) (h.names.given_out n there);
      binders = λ n there. still_live n.binder (h.names.binders n there) (no_names n there);
      differ = h.names.differ;
      few =
          each (λ (e : SharedDomain). count_bound_by s.names e.number ≤ e.quotas.names)
          (λ x there. rw ((same_but d x).number, (same_but d x).quotas) (h.names.few x there));
    };
    threads = record {
      rise = h.threads.rise;
      before = h.threads.before;
      have_segments = h.threads.have_segments;
      started = λ t there. still_admitted t.domain (h.threads.started t there);
      few =
          each (λ (e : SharedDomain). count_started_in s.threads e.number ≤ e.quotas.threads)
          (λ x there. rw ((same_but d x).number, (same_but d x).quotas) (h.threads.few x there));
    };
    segments = record {
      before = h.segments.before;
      homes = λ e there. still_live e.domain (h.segments.homes e there) (no_segments e there);
      differ = h.segments.differ;
      few =
          each (λ (e : SharedDomain). count_segments_of s.threads e.number ≤ e.quotas.chunks)
          (λ x there. rw ((same_but d x).number, (same_but d x).quotas) (h.segments.few x there));
    };
  }

-- ---- All that goes with a domain.

abbrev all_gone : SharedDomain → SharedDomain
all_gone e = record e { caps = all_revoked e.caps }

gone_refits : Refits all_gone
gone_refits = record {
  number = λ e. refl;
  live = λ e. refl;
  quotas = λ e. refl;
  owner = λ e. refl;
  first = λ e. refl;
  count = λ e. refl;
  made = λ e. omega (arith, length-map e.caps.made revoked_capability);
}

-- what is revoked has the class that it had
revoked_from : (made : List Capability) (c : Capability) → Contains (map revoked_capability made) c
    → (b : Capability) × Contains made b × (b.class ≡ c.class) × (c.revoked ≡ true)
revoked_from made c there =
    let w = was_mapped revoked_capability made c there in
    (w.0, w.1, ap (λ (x : Capability). x.class) w.2, ap (λ (x : Capability). x.revoked) (sym w.2))

gone_sound : (s : SharedState) (e : SharedDomain) → IsSoundDomain s e → IsSoundDomain s (all_gone e)
gone_sound s e h = record {
  budget = h.budget;
  made = omega (arith, h.made, length-map e.caps.made revoked_capability);
  dead = λ c gone made. (revoked_from e.caps.made c made).3;
  have_stubs =
      λ c made.
      let b = revoked_from e.caps.made c made in
      let P : ClassId → Type 0 = λ x. (stub : Stub) × (stub_for s x ≡ Some stub) in
      subst P b.2 (h.have_stubs b.0 b.1);
}

two_steps : (d : DomainId) (domains : List SharedDomain)
    → map (λ (e : SharedDomain). if e.number.0 == d.0 then (let x : SharedDomain = record e { live = false; caps = all_revoked e.caps } in x) else e) domains
    ≡ map (end_one d) (map (one_changed d all_gone) domains)
two_steps d [] = refl
two_steps d (e ∷ domains) = elim (cases_Bool (e.number.0 == d.0)) [
  | inl hit ↦ rw (hit, two_steps d domains) (rw hit refl)
  | inr miss ↦ rw (miss, two_steps d domains) (rw miss refl)
]

passes_filter : {X : Type 0} (p : X → Bool) (xs : List X) (x : X) → Contains (filter p xs) x → p x ≡ true
passes_filter p [] x there = absurd (Contains-none x there)
passes_filter p (y ∷ xs) x there = elim (cases_Bool (p y)) [
  | inl hit ↦
      let among : Contains (y ∷ filter p xs) x = rw hit at there in
      elim (Contains-cases x y (filter p xs) among) [ inl here ↦ ap p (sym here) ∙ hit | inr later ↦ passes_filter p xs x later ]
  | inr miss ↦ passes_filter p xs x (rw miss at there)
]

module _ (s new : SharedState) (d : DomainId) (drops : Drops s d new) (h : AreSound s) where
  abbrev bound_by_other : BoundName → Bool
  bound_by_other n = not (n.binder.0 == d.0)

  abbrev without_caps : SharedState
  without_caps = refit (one_changed d all_gone) (one_refits d all_gone gone_refits) s

  abbrev without_names : SharedState
  without_names = record without_caps { names = filter bound_by_other s.names }

  abbrev stacks : List SharedThread
  stacks = with_stacks (segments_left shared_form d) s.threads

  abbrev without_threads : SharedState
  without_threads = record without_names { threads = live_threads stacks }

  first_sound : AreSound without_caps
  first_sound = sound_one d all_gone gone_refits s (λ e there number. gone_sound s e (sound_domain s h e there)) h

  third_sound : AreSound without_threads
  third_sound =
      let P : List SharedSegment → Type 0 = λ xs. Remains SameSegment (all_segments s) xs in
      let f = with_segments (segments_left shared_form d) in
      threads_changed without_names (sound_without without_caps first_sound bound_by_other) (live_threads stacks)
      (remain_further SameThread (λ x y z a b. (a.0 ∙ b.0, a.1 ∙ b.1)) s.threads stacks (live_threads stacks)
      (changed_remain SameThread f (end_lessens d).same s.threads) (filtered_remain SameThread thread_is has_segments stacks))
      (subst P (sym (live_segments stacks)) (segments_lessened f (end_lessens d) s.threads))
      (live_have_segments stacks)

  no_names : (n : BoundName) → Contains (filter bound_by_other s.names) n → n.binder.0 ≡ d.0 → ⊥
  no_names n there same =
      let passes = passes_filter bound_by_other s.names n there in
      let hit : (n.binder.0 == d.0) ≡ true = eq-eqb n.binder.0 d.0 same in
      let never : false ≡ true = rw hit at passes in cc

  no_segments : (e : SharedSegment) → Contains (segments_in (live_threads stacks)) e → e.domain.0 ≡ d.0 → ⊥
  no_segments e there =
      let P : List SharedSegment → Type 0 = λ xs. Contains xs e in
      let from = Contains-flat_map_from (λ (t : SharedThread). t.segments) stacks e (subst P (live_segments stacks) there) in
      let w = was_mapped (with_segments (segments_left shared_form d)) s.threads from.0 from.1 in
      let Q : SharedThread → Type 0 = λ t. Contains t.segments e in
      left_others d w.0.segments e (subst Q (sym w.2) from.2)

  are_revoked : (e : SharedDomain) (c : Capability) → Contains without_caps.domains e → e.number.0 ≡ d.0 → Contains e.caps.made c → c.revoked ≡ true
  are_revoked e c there number made =
      let w = was_mapped (one_changed d all_gone) s.domains e there in
      elim (cases_Bool (w.0.number.0 == d.0)) [
        | inl hit ↦
            let same : all_gone w.0 ≡ e = rw hit at w.2 in
            let P : SharedDomain → Type 0 = λ x. Contains x.caps.made c in
            (revoked_from w.0.caps.made c (subst P (sym same) made)).3
        | inr miss ↦
            let same : w.0 ≡ e = rw miss at w.2 in
            let never : true ≡ false =
            sym (eq-eqb w.0.number.0 d.0 (ap (λ (x : SharedDomain). x.number.0) same ∙ number)) ∙ miss in
            absurd cc
      ]

  becomes : new ≡ after without_threads d third_sound no_names no_segments are_revoked
  becomes = λ i. record {
    domains = (drops.domains ∙ two_steps d s.domains) i;
    names = drops.names i;
    threads = drops.threads i;
    next_thread = drops.next_thread i;
    next_segment = drops.next_segment i;
    stubs = drops.stubs i;
  }

  pub sound_dropped : AreSound new
  sound_dropped =
      let P : SharedState → Type 0 = λ x. AreSound x in
      subst P (sym becomes) (sound_ended without_threads d third_sound no_names no_segments are_revoked)
