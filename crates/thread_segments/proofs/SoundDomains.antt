-- What domains share stays sound where a domain's budget or capabilities change, and with one more domain.
use Rattle.std.proofs.Common.{◌≡◌, ℕ, zero, suc, ◌+◌, ◌<◌, ◌≤◌, inl, inr, Bool, true, false, List, [], ◌∷◌, length, find, map, take, Option, Some, None, Contains, slice_get, refl, sym, ap, subst, ◌∙◌, arith}
use Rattle.std.specs.Prelude.{◌==◌, ◌-◌, option_map, if◌then◌else◌}
use Rattle.std.proofs.lemmas.Bool.{cases_Bool, eqb-true}
use Rattle.std.proofs.lemmas.List.Sums.{sum_by-cons}
use Rattle.std.proofs.lemmas.Option.{slice_get_within}
use Rattle.jk_model.specs.declared.identifiers.CapId.{CapId}
use Rattle.jk_model.specs.declared.identifiers.DomainId.{DomainId}
use Rattle.jk_model.specs.declared.script.Quotas.{Quotas}
use Rattle.jk_model_classes.specs.declared.sharing.Stub.{Stub}
use Rattle.jk_model_heaps.specs.Capabilities.{CapRange, Capability, IsGivenOut, OwnedCapability, capability_in, capability_numbered, has_number}
use Rattle.jk_model_sharing.specs.BoundNames.{count_bound_by}
use Rattle.jk_model_sharing.specs.CapabilityCalls.{count_numbers}
use Rattle.jk_model_sharing.specs.SharedStates.{SharedDomain, SharedState, caps_of, domain_numbered, ranges_of, spent, stub_for}
use Rattle.list_lemmas.proofs.ItemsByPlace.{comes_from, item_there}
use Rattle.list_lemmas.proofs.ItemsOfLists.{Contains-at, place_of}
use Rattle.thread_segments.specs.Answers.{spent_steps}
use Rattle.thread_segments.specs.SoundStates.{AreNumbered, AreSound, IsWithin, all_segments}
use Rattle.thread_segments.proofs.Remaining.{all_remain}
use Rattle.thread_segments.proofs.SoundThreads.{KeepsDomains, SameSegment, SameThread, segment_is, segments_left, thread_is, threads_left}

pub found_mapped : {X Y : Type 0} (test : Y → Bool) (was : X → Bool) (f : X → Y) (xs : List X) → ((x : X) → test (f x) ≡ was x)
    → find test (map f xs) ≡ option_map f (find was xs)
found_mapped test was f [] same = refl
found_mapped test was f (x ∷ xs) same = elim (cases_Bool (was x)) [
  | inl hit ↦ let now : test (f x) ≡ true = same x ∙ hit in rw (now, hit) refl
  | inr miss ↦ let now : test (f x) ≡ false = same x ∙ miss in rw (now, miss) (found_mapped test was f xs same)
]

-- what an item of a changed list was
pub was_mapped : {X Y : Type 0} (f : X → Y) (xs : List X) (y : Y) → Contains (map f xs) y → (x : X) × Contains xs x × (f x ≡ y)
was_mapped f xs y there =
    let at = place_of (map f xs) y there in
    let c = comes_from f xs at.0 y at.1 in
    (c.from, Contains-at xs at.0 c.from c.there, c.gives)

-- What holds of a domain's budget and capabilities.
pub record IsSoundDomain (s : SharedState) (e : SharedDomain) : Type 0 where
  pub budget : IsWithin e.quotas.steps e.steps_left
  pub made : length e.caps.made ≤ e.caps.count
  pub dead : (c : Capability) → e.live ≡ false → Contains e.caps.made c → c.revoked ≡ true
  pub have_stubs : (c : Capability) → Contains e.caps.made c → (stub : Stub) × (stub_for s c.class ≡ Some stub)

pub sound_domain : (s : SharedState) → AreSound s → (e : SharedDomain) → Contains s.domains e → IsSoundDomain s e
sound_domain s h e there = record {
  budget = h.budgets e there;
  made = h.ranges.made e there;
  dead = λ c gone made. h.ranges.dead e c there gone made;
  have_stubs = λ c made. h.ranges.have_stubs e c there made;
}

-- ---- Domains are changed, but for their numbers, ranges and quotas.

pub record Refits (g : SharedDomain → SharedDomain) : Type 0 where
  pub number : (e : SharedDomain) → (g e).number ≡ e.number
  pub live : (e : SharedDomain) → (g e).live ≡ e.live
  pub quotas : (e : SharedDomain) → (g e).quotas ≡ e.quotas
  pub owner : (e : SharedDomain) → (g e).caps.owner ≡ e.caps.owner
  pub first : (e : SharedDomain) → (g e).caps.first ≡ e.caps.first
  pub count : (e : SharedDomain) → (g e).caps.count ≡ e.caps.count
  pub made : (e : SharedDomain) → length e.caps.made ≤ length (g e).caps.made

module _ (g : SharedDomain → SharedDomain) (r : Refits g) where
  abbrev pub refit : SharedState → SharedState
  refit s = record s { domains = map g s.domains }

  pub numbered_refit : (domains : List SharedDomain) → AreNumbered domains → AreNumbered (map g domains)
  numbered_refit domains h i e at =
      let c = comes_from g domains i e at in
      ap (λ (x : SharedDomain). x.number.0) (sym c.gives) ∙ ap (λ (d : DomainId). d.0) (r.number c.from) ∙ h i c.from c.there

  pub domain_refit : (s : SharedState) (d : DomainId) → domain_numbered (refit s) d ≡ option_map g (domain_numbered s d)
  domain_refit s d =
      found_mapped (λ (e : SharedDomain). e.number.0 == d.0) (λ (e : SharedDomain). e.number.0 == d.0) g s.domains
      (λ e. ap (λ (b : DomainId). b.0 == d.0) (r.number e))

  pub keeps_refit : (s : SharedState) → KeepsDomains s (refit s)
  keeps_refit s = record {
    from = λ e there.
        let w = was_mapped g s.domains e there in
        (w.0, w.1, sym (r.number w.0) ∙ ap (λ (x : SharedDomain). x.number) w.2, sym (r.quotas w.0) ∙ ap (λ (x : SharedDomain). x.quotas) w.2);
    live = λ d l. (g l.0, domain_refit s d ∙ ap (option_map g) l.1, r.live l.0 ∙ l.2);
    admitted = λ d a. (g a.0, domain_refit s d ∙ ap (option_map g) a.1);
  }

  numbers_refit : (i : ℕ) (domains : List SharedDomain) → count_numbers (take i (ranges_of (map g domains))) ≡ count_numbers (take i (ranges_of domains))
  numbers_refit zero domains = refl
  numbers_refit (suc i) [] = refl
  numbers_refit (suc i) (e ∷ domains) =
      let counts : CapRange → ℕ = λ c. c.count in
      sum_by-cons counts (g e).caps (take i (ranges_of (map g domains)))
      ∙ ap (λ n. n + count_numbers (take i (ranges_of (map g domains)))) (r.count e)
      ∙ ap (λ n. e.caps.count + n) (numbers_refit i domains)
      ∙ sym (sum_by-cons counts e.caps (take i (ranges_of domains)))

  all_numbers_refit : (domains : List SharedDomain) → count_numbers (ranges_of (map g domains)) ≡ count_numbers (ranges_of domains)
  all_numbers_refit [] = refl
  all_numbers_refit (e ∷ domains) =
      let counts : CapRange → ℕ = λ c. c.count in
      sum_by-cons counts (g e).caps (ranges_of (map g domains))
      ∙ ap (λ n. n + count_numbers (ranges_of (map g domains))) (r.count e)
      ∙ ap (λ n. e.caps.count + n) (all_numbers_refit domains)
      ∙ sym (sum_by-cons counts e.caps (ranges_of domains))

  -- ---- What was given out stays so.

  given_in : (k : CapId) (e : SharedDomain) (c : OwnedCapability) → capability_in k e.caps ≡ Some c → (b : OwnedCapability)
      × (capability_in k (g e).caps ≡ Some b)
  given_in k e c is = by_item (slice_get e.caps.made (k.0 - e.caps.first)) refl is
    where
      by_item : (o : Option Capability) → slice_get e.caps.made (k.0 - e.caps.first) ≡ o
          → option_map (λ (x : Capability). let w : OwnedCapability = record { owner = e.caps.owner; capability = x } in w) o ≡ Some c
          → (b : OwnedCapability) × (capability_in k (g e).caps ≡ Some b)
      by_item None at none = absurd cc
      by_item (Some x) at some =
          let low : k.0 - e.caps.first < length e.caps.made = slice_get_within e.caps.made (k.0 - e.caps.first) x at in
          let same = r.first e in
          let there : k.0 - (g e).caps.first < length (g e).caps.made = rw same (omega (arith, low, r.made e)) in
          let item = item_there (g e).caps.made (k.0 - (g e).caps.first) there in
          (record { owner = (g e).caps.owner; capability = item.0 }, rw item.1 refl)

  given_found : (k : CapId) (domains : List SharedDomain) (c : OwnedCapability) → capability_numbered (ranges_of domains) k ≡ Some c
      → (b : OwnedCapability) × (capability_numbered (ranges_of (map g domains)) k ≡ Some b)
  given_found k [] c is = absurd cc
  given_found k (e ∷ domains) c is =
      let same : has_number k (g e).caps ≡ has_number k e.caps = rw (r.first e, r.count e) refl in
      elim (cases_Bool (has_number k e.caps)) [
        | inl hit ↦
            let now : has_number k (g e).caps ≡ true = same ∙ hit in
            let here : capability_in k e.caps ≡ Some c = rw hit at is in
            let b = given_in k e c here in
            (b.0, rw now b.1)
        | inr miss ↦
            let now : has_number k (g e).caps ≡ false = same ∙ miss in
            let later : capability_numbered (ranges_of domains) k ≡ Some c = rw miss at is in
            let b = given_found k domains c later in
            (b.0, rw now b.1)
      ]

  pub given_refit : (s : SharedState) (k : CapId) → IsGivenOut (caps_of s) k → IsGivenOut (caps_of (refit s)) k
  given_refit s k (c, is) = given_found k s.domains c is

  -- ---- All is sound where the new budgets and capabilities are.

  abbrev pub AreRight : SharedState → Type 0
  AreRight s = (e : SharedDomain) → Contains s.domains e → IsSoundDomain s (g e)

  pub sound_refit : (s : SharedState) → AreRight s → AreSound s → AreSound (refit s)
  sound_refit s right h = record {
    numbered = numbered_refit s.domains h.numbered;
    budgets =
        λ e there.
        let w = was_mapped g s.domains e there in
        subst (λ (x : SharedDomain). IsWithin x.quotas.steps x.steps_left) w.2 (right w.0 w.1).budget;
    next_thread = h.next_thread;
    next_segment = h.next_segment;
    ranges = record {
      owner =
          λ e there.
          let w = was_mapped g s.domains e there in
          subst (λ (x : SharedDomain). x.caps.owner ≡ x.number) w.2 (r.owner w.0 ∙ h.ranges.owner w.0 w.1 ∙ sym (r.number w.0));
      count =
          λ e there.
          let w = was_mapped g s.domains e there in
          subst (λ (x : SharedDomain). x.caps.count ≡ x.quotas.caps) w.2
          (r.count w.0 ∙ h.ranges.count w.0 w.1 ∙ ap (λ (q : Quotas). q.caps) (sym (r.quotas w.0)));
      chained =
          λ i e at.
          let c = comes_from g s.domains i e at in
          ap (λ (x : SharedDomain). x.caps.first) (sym c.gives) ∙ r.first c.from ∙ h.ranges.chained i c.from c.there
          ∙ ap (λ n. 1 + n) (sym (numbers_refit i s.domains));
      made =
          λ e there.
          let w = was_mapped g s.domains e there in
          subst (λ (x : SharedDomain). length x.caps.made ≤ x.caps.count) w.2 (right w.0 w.1).made;
      few = rw (all_numbers_refit s.domains) h.ranges.few;
      dead =
          λ e c there.
          let w = was_mapped g s.domains e there in
          subst (λ (x : SharedDomain). x.live ≡ false → Contains x.caps.made c → c.revoked ≡ true) w.2 (λ gone made. (right w.0 w.1).dead c gone made);
      have_stubs =
          λ e c there.
          let w = was_mapped g s.domains e there in
          subst (λ (x : SharedDomain). Contains x.caps.made c → (stub : Stub) × (stub_for s c.class ≡ Some stub)) w.2
          (λ made. (right w.0 w.1).have_stubs c made);
    };
    names = record {
      short = h.names.short;
      given_out = λ n there. given_refit s n.cap (h.names.given_out n there);
      binders = λ n there. (keeps_refit s).live n.binder (h.names.binders n there);
      differ = h.names.differ;
      few =
          λ e there.
          let x = (keeps_refit s).from e there in
          let P : DomainId → Type 0 = λ d. count_bound_by s.names d ≤ x.0.quotas.names in
          let was = subst P x.2 (h.names.few x.0 x.1) in
          let quota = ap (λ (q : Quotas). q.names) x.3 in
          omega (arith, was, quota);
    };
    threads =
        threads_left s (refit s) (keeps_refit s) (all_remain SameThread thread_is s.threads) (omega arith) h.threads.have_segments h.threads;
    segments =
        segments_left s (refit s) (keeps_refit s) (all_remain SameSegment segment_is (all_segments s)) (omega arith) h.segments;
  }

-- ---- One domain is changed.

abbrev pub one_changed : DomainId → (SharedDomain → SharedDomain) → SharedDomain → SharedDomain
one_changed d change e = if e.number.0 == d.0 then change e else e

pub same_refits : Refits (λ e. e)
same_refits = record {
  number = λ e. refl;
  live = λ e. refl;
  quotas = λ e. refl;
  owner = λ e. refl;
  first = λ e. refl;
  count = λ e. refl;
  made = λ e. omega arith;
}

module _ (d : DomainId) (change : SharedDomain → SharedDomain) (r : Refits change) where
  pub one_refits : Refits (one_changed d change)
  one_refits = record {
    number = λ e. elim (cases_Bool (e.number.0 == d.0)) [ inl hit ↦ rw hit (r.number e) | inr miss ↦ rw miss refl ];
    live = λ e. elim (cases_Bool (e.number.0 == d.0)) [ inl hit ↦ rw hit (r.live e) | inr miss ↦ rw miss refl ];
    quotas = λ e. elim (cases_Bool (e.number.0 == d.0)) [ inl hit ↦ rw hit (r.quotas e) | inr miss ↦ rw miss refl ];
    owner = λ e. elim (cases_Bool (e.number.0 == d.0)) [ inl hit ↦ rw hit (r.owner e) | inr miss ↦ rw miss refl ];
    first = λ e. elim (cases_Bool (e.number.0 == d.0)) [ inl hit ↦ rw hit (r.first e) | inr miss ↦ rw miss refl ];
    count = λ e. elim (cases_Bool (e.number.0 == d.0)) [ inl hit ↦ rw hit (r.count e) | inr miss ↦ rw miss refl ];
    made = λ e. elim (cases_Bool (e.number.0 == d.0)) [ inl hit ↦ rw hit (r.made e) | inr miss ↦ rw miss (omega arith) ];
  }

  pub sound_one : (s : SharedState) → ((e : SharedDomain) → Contains s.domains e → e.number.0 ≡ d.0 → IsSoundDomain s (change e)) → AreSound s
      → AreSound (refit (one_changed d change) one_refits s)
  sound_one s right h =
      sound_refit (one_changed d change) one_refits s
      (λ e there. elim (cases_Bool (e.number.0 == d.0)) [
        | inl hit ↦ rw hit (right e there (eqb-true e.number.0 d.0 hit))
        | inr miss ↦ rw miss (sound_domain s h e there)
      ]) h

-- ---- A step is paid.

less_within : (quota left : Option ℕ) → IsWithin quota left → IsWithin quota (option_map (λ (n : ℕ). n - 1) left)
less_within None left h = ap (option_map (λ (n : ℕ). n - 1)) h
less_within (Some steps) left (n, is, low) = (n - 1, ap (option_map (λ (n : ℕ). n - 1)) is, omega (arith, low))

less_by_within : (n : ℕ) (quota left : Option ℕ) → IsWithin quota left → IsWithin quota (option_map (λ (k : ℕ). k - n) left)
less_by_within n None left h = ap (option_map (λ (k : ℕ). k - n)) h
less_by_within n (Some steps) left (k, is, low) = (k - n, ap (option_map (λ (k : ℕ). k - n)) is, omega (arith, low))

abbrev paid_steps : ℕ → SharedDomain → SharedDomain
paid_steps n e = record e { steps_left = option_map (λ (k : ℕ). k - n) e.steps_left }

paid_steps_refits : (n : ℕ) → Refits (paid_steps n)
paid_steps_refits n = record {
  number = λ e. refl;
  live = λ e. refl;
  quotas = λ e. refl;
  owner = λ e. refl;
  first = λ e. refl;
  count = λ e. refl;
  made = λ e. omega arith;
}

pub sound_spent_steps : (n : ℕ) (s : SharedState) (d : DomainId) → AreSound s → AreSound (spent_steps n d s)
sound_spent_steps n s d h =
    sound_one d (paid_steps n) (paid_steps_refits n) s
    (λ e there number.
    let x = sound_domain s h e there in
    record { budget = less_by_within n e.quotas.steps e.steps_left x.budget; made = x.made; dead = x.dead; have_stubs = x.have_stubs }) h

abbrev paid : SharedDomain → SharedDomain
paid e = record e { steps_left = option_map (λ (n : ℕ). n - 1) e.steps_left }

paid_refits : Refits paid
paid_refits = record {
  number = λ e. refl;
  live = λ e. refl;
  quotas = λ e. refl;
  owner = λ e. refl;
  first = λ e. refl;
  count = λ e. refl;
  made = λ e. omega arith;
}

pub sound_spent : (s : SharedState) (d : DomainId) → AreSound s → AreSound (spent d s)
sound_spent s d h =
    sound_one d paid paid_refits s
    (λ e there number.
    let x = sound_domain s h e there in
    record { budget = less_within e.quotas.steps e.steps_left x.budget; made = x.made; dead = x.dead; have_stubs = x.have_stubs }) h
